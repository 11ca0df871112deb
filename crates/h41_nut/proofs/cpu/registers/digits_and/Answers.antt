use Rattle.std.proofs.Common.{ap, ◌∙◌}
use Rattle.std.specs.Int.RustNames.{bit_and}
use Rattle.h41_digits.specs.Register.{value}
use Rattle.h41_nut.proofs.Digits.{is_digits_and}
use Rattle.h41_nut.proofs.cpu.registers.digits_and.Goals as goal

pub returns : goal.returns
returns c =
    is_digits_and c.args.x c.args.y c.holding.result c.to_u64.ensures.register c.to_u64-2.ensures.register c.holding.ensures.register
    (c.holding.ensures.value ∙ ap (λ n. bit_and n c.to_u64-2.result) c.to_u64.ensures.value
    ∙ ap (bit_and (value c.args.x)) c.to_u64-2.ensures.value)
