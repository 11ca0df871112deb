-- The eleven digits, rounded to ten, are worth the same as what `bounded` is given.
use Rattle.std.proofs.Common.{◌≡◌, ℕ, ◌+◌, ◌*◌, ◌/◌, ◌^◌, ap, ◌∙◌, arith}
use Rattle.std.proofs.lemmas.Nat.{pow-add}
use Rattle.h41_decimal.proofs.Cuts.{rounded_at}
use Rattle.h41_decimal.proofs.rounding.round_eleven_digits.Goals as goal

-- The place of the tenth digit.
next_place : (n scale : ℕ) → n * 10 ^ (scale + 1) ≡ n * (10 * 10 ^ scale)
next_place n scale = ap (λ t. n * t) (pow-add 10 scale 1 ∙ omega arith)

-- The place of the ninth digit.
second_place : (scale : ℕ) → 1000000000 * 10 ^ (scale + 2) ≡ 10000000000 * (10 * 10 ^ scale)
second_place scale = ap (λ t. 1000000000 * t) (pow-add 10 scale 2) ∙ omega arith

pub returns-then-digits-lt10000000000 : goal.returns-then-digits-lt10000000000
returns-then-digits-lt10000000000 c v cut =
    let T = c.args.whole in
    rounded_at c.args.sign v T ((T + 5) / 10) ((T + 5) / 10) c.args.scale
    (c.args.scale + 1) _ cut (omega arith) (omega arith) (omega arith) (omega arith)
    record { at_least = omega arith; below = omega arith } (next_place ((T + 5) / 10) c.args.scale) c.bounded.ensures.low
    c.bounded.ensures.high

pub returns-else-digits-lt10000000000 : goal.returns-else-digits-lt10000000000
returns-else-digits-lt10000000000 c v cut =
    let T = c.args.whole in
    rounded_at c.args.sign v T 10000000000 1000000000 c.args.scale (c.args.scale + 2)
    _ cut (omega arith) (omega arith) (omega arith) (omega arith)
    record { at_least = omega arith; below = omega arith } (second_place c.args.scale)
    c.bounded-else-digits-lt10000000000.ensures.low c.bounded-else-digits-lt10000000000.ensures.high
