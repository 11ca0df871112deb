use Rattle.std.proofs.Common.{refl, ◌+◌, ◌∙◌}
use Rattle.h41_ram.proofs.ThreeDigits.{three_digits_written}
use Rattle.h41_program.proofs.registers.with_address.Goals as goal

pub returns : goal.returns
returns c =
    three_digits_written c.with_number.result c.args.register c.args.place (c.args.place + 2) c.args.address
    refl c.requires.place c.requires.address c.with_number.ensures.from c.with_number.ensures.register
    (c.with_number.ensures.number ∙ c.from.ensures) c.with_number.ensures.below c.with_number.ensures.above
