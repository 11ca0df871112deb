use Rattle.std.proofs.Common.{arith, ap, ◌∙◌}
use Rattle.std.specs.Int.RustNames.{bit_or}
use Rattle.h41_digits.specs.Register.{value}
use Rattle.h41_nut.proofs.Digits.{is_digits_or, or_fits}
use Rattle.h41_nut.proofs.Parts.{register-lt}
use Rattle.h41_nut.proofs.cpu.registers.digits_or.Goals as goal

pub holding-requires : goal.holding-requires
holding-requires c =
    let x_fits = rw (← c.to_u64.ensures.value) at (register-lt c.args.x c.to_u64.ensures.register) in
    let y_fits = rw (← c.to_u64-2.ensures.value) at (register-lt c.args.y c.to_u64-2.ensures.register) in
    (omega arith, (omega arith, or_fits c.to_u64.result c.to_u64-2.result x_fits y_fits))

pub returns : goal.returns
returns c =
    is_digits_or c.args.x c.args.y c.holding.result c.to_u64.ensures.register c.to_u64-2.ensures.register c.holding.ensures.register
    (c.holding.ensures.value ∙ ap (λ n. bit_or n c.to_u64-2.result) c.to_u64.ensures.value
    ∙ ap (bit_or (value c.args.x)) c.to_u64-2.ensures.value)
