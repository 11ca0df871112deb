-- What is rounded was cut from the exact value.
use Rattle.std.proofs.Common.{◌≡◌, ◌+◌, ◌-◌, ◌*◌, ◌/◌, ◌%◌, ◌^◌, ap, ◌∙◌, arith}
use Rattle.std.proofs.lemmas.Nat.{pow-add}
use Rattle.h41_decimal.proofs.Exact.{cut_root}
use Rattle.h41_decimal.proofs.Roots.{filled_digits}
use Rattle.h41_decimal.proofs.sizes.root.Goals as goal

pub eleven_digit_root-root-requires-clause-at_least : goal.eleven_digit_root-root-requires-clause-at_least
eleven_digit_root-root-requires-clause-at_least c =
    let x = c.args.x.mantissa in
    (filled_digits x.digits c.steps-steps.result c.power_of_ten.result x.at_least x.below c.power_of_ten.ensures).0

pub returns : goal.returns
returns c =
    let x = c.args.x in
    let m = x.mantissa.digits in
    let filled = 2 - c.steps-steps.result % 2 in
    let p : m * c.power_of_ten.result * 10 ^ 10 ≡ m * 10 ^ (filled + 10) =
    ap (λ k. m * k * 10 ^ 10) c.power_of_ten.ensures ∙ (let q = ap (λ k. m * k) (pow-add 10 filled 10) in omega (arith, q)) in
    c.round_whole.ensures _
    (cut_root m x.exponent.biased (filled + 10) c.eleven_digit_root-root.result
    (128 + (c.steps-steps.result + 98 - filled) / 2) (m * c.power_of_ten.result * 10 ^ 10)
    p c.eleven_digit_root-root.ensures.square c.eleven_digit_root-root.ensures.next c.eleven_digit_root-root.ensures.long (omega arith))
