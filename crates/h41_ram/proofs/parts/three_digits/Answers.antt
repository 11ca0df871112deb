use Rattle.std.proofs.Common.{refl, arith, ◌+◌, ◌<◌, ◌∙◌}
use Rattle.h41_ram.proofs.ThreeDigits.{three_digits_read, three_digits_fit}
use Rattle.h41_ram.proofs.parts.three_digits.Goals as goal

pub overflow_cast-result : goal.overflow_cast-result
overflow_cast-result c =
    let fits : c.number.result < 4096 =
    rw c.number.ensures.number
    (three_digits_fit c.args.register c.args.place (c.args.place + 2) c.number.ensures.register refl c.requires) in
    omega arith

pub returns : goal.returns
returns c = c.number.ensures.number ∙ three_digits_read c.args.register c.args.place (c.args.place + 2) refl
