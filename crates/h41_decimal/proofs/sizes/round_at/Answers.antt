use Rattle.std.proofs.Common.{◌+◌, ◌-◌, ◌/◌, arith, refl}
use Rattle.h41_decimal.proofs.Nearest.{ten_pow_pos}
use Rattle.h41_decimal.proofs.Steps.{whole_rounds, tiny_rounds, quotient_rounds_to_zero, quotient_rounds_to_steps}
use Rattle.h41_decimal.proofs.sizes.round_at.Goals as goal

pub returns-then-place-steps : goal.returns-then-place-steps
returns-then-place-steps c = whole_rounds c.args.sign c.args.x c.args.place (omega arith)

pub returns-then-dropped-gt10 : goal.returns-then-dropped-gt10
returns-then-dropped-gt10 c = tiny_rounds c.args.sign c.args.x c.args.place (omega arith)

pub nonzero_div-steps-2 : goal.nonzero_div-steps-2
nonzero_div-steps-2 c = let h = ten_pow_pos (c.args.place - c.steps-2.result) in omega arith

pub returns-then-steps-eq0 : goal.returns-then-steps-eq0
returns-then-steps-eq0 c =
    let step = c.power_of_ten-step.result in
    quotient_rounds_to_zero c.args.sign c.args.x c.args.place (c.args.place - c.args.x.exponent.biased) step
    ((c.args.x.mantissa.digits + step / 2) / step) (omega arith) (omega arith) (cc) refl c.if-steps-eq0.true

pub returns : goal.returns
returns c =
    let some = c.if-steps-eq0.false in
    let step = c.power_of_ten-step.result in
    quotient_rounds_to_steps c.args.sign c.args.x c.args.place (c.args.place - c.args.x.exponent.biased) step
    ((c.args.x.mantissa.digits + step / 2) / step) _ (omega arith) (omega arith) (cc) refl (omega arith) c.round_whole.ensures
