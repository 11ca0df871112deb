use Rattle.std.proofs.Common.{refl, ◌+◌, ◌∙◌}
use Rattle.h41_ram.proofs.ThreeDigits.{three_digits_written}
use Rattle.h41_ram.proofs.start.with_three_digits.Goals as goal

pub returns : goal.returns
returns c =
    three_digits_written c.with_number.result c.args.register c.args.place (c.args.place + 2) c.args.number
    refl c.requires.place c.requires.number c.with_number.ensures.from c.with_number.ensures.register
    (c.with_number.ensures.number ∙ c.from.ensures) c.with_number.ensures.below c.with_number.ensures.above
