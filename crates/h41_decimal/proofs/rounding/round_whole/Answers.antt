-- A number of more or fewer than eleven digits, brought to eleven.
use Rattle.std.proofs.Common.{ℕ, ◌+◌, ◌-◌, ◌*◌, ◌/◌, ◌^◌, ◌<◌, ◌≤◌, refl, subst, sym, arith}
use Rattle.h41_decimal.specs.private.Cut.{IsCut}
use Rattle.h41_decimal.proofs.Cuts.{eleven_of_more, eleven_of_fewer, cut_to_eleven, fill_to_eleven}
use Rattle.h41_decimal.proofs.rounding.round_whole.Goals as goal

-- The quotient by a power of ten that has eleven digits.
more : (whole count : ℕ) → 11 < count → 10 ^ count ≤ 10 * whole → whole < 10 ^ count
    → (0 < 10 ^ (count - 11)) × (10 ^ 10 ≤ whole / 10 ^ (count - 11)) × (whole / 10 ^ (count - 11) < 10 ^ 11)
more whole count many least next = eleven_of_more whole count (count - 11) (10 ^ (count - 11)) refl (omega arith) least next

pub round_eleven_digits-requires-clause-at_least : goal.round_eleven_digits-requires-clause-at_least
round_eleven_digits-requires-clause-at_least c =
    let h = more c.args.whole c.digit_count-count.result (omega arith) c.digit_count-count.ensures.least c.digit_count-count.ensures.next in
    omega (arith, h, c.without_last.ensures)

pub round_eleven_digits-requires-clause-below : goal.round_eleven_digits-requires-clause-below
round_eleven_digits-requires-clause-below c =
    let h = more c.args.whole c.digit_count-count.result (omega arith) c.digit_count-count.ensures.least c.digit_count-count.ensures.next in
    omega (arith, h, c.without_last.ensures)

-- The product with a power of ten that has eleven digits.
fewer : (c : goal.After-power_of_ten) → (10 ^ 10 ≤ c.args.whole * c.power_of_ten.result) × (c.args.whole * c.power_of_ten.result < 10 ^ 11)
fewer c =
    eleven_of_fewer c.args.whole c.digit_count-count.result (11 - c.digit_count-count.result) c.power_of_ten.result
    c.power_of_ten.ensures (omega arith) c.digit_count-count.ensures.least c.digit_count-count.ensures.next

pub overflow_mul-whole : goal.overflow_mul-whole
overflow_mul-whole c = let h = fewer c in omega arith

pub round_eleven_digits-requires-else-count-gt11-clause-at_least : goal.round_eleven_digits-requires-else-count-gt11-clause-at_least
round_eleven_digits-requires-else-count-gt11-clause-at_least c = (fewer c).0

pub round_eleven_digits-requires-else-count-gt11-clause-below : goal.round_eleven_digits-requires-else-count-gt11-clause-below
round_eleven_digits-requires-else-count-gt11-clause-below c = (fewer c).1

pub returns-then-count-gt11 : goal.returns-then-count-gt11
returns-then-count-gt11 c v far =
    let dropped = c.digit_count-count.result - 11 in
    let h = more c.args.whole c.digit_count-count.result (omega arith) c.digit_count-count.ensures.least c.digit_count-count.ensures.next in
    let C : ℕ → Type 0 = λ eleven. IsCut v eleven (c.args.scale + dropped) in
    c.round_eleven_digits.ensures v
    (subst C (sym c.without_last.ensures) (cut_to_eleven v c.args.whole c.args.scale dropped (10 ^ dropped) h.0 refl far.cut))

pub returns-else-count-gt11 : goal.returns-else-count-gt11
returns-else-count-gt11 c v far =
    let h =
    eleven_of_fewer c.args.whole c.digit_count-count.result (11 - c.digit_count-count.result) c.power_of_ten.result
    c.power_of_ten.ensures (omega arith) c.digit_count-count.ensures.least c.digit_count-count.ensures.next in
    c.round_eleven_digits-else-count-gt11.ensures v
    (fill_to_eleven v c.args.whole c.args.scale (11 - c.digit_count-count.result) (c.args.scale - (11 - c.digit_count-count.result))
    c.power_of_ten.result c.power_of_ten.ensures (omega arith) h.1 far)
