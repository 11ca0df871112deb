use Rattle.std.proofs.Common.{◌≡◌, ℕ, ◌+◌, ◌^◌, ◌<◌, ◌%◌, ◌∙◌, sym, ap, arith, inl, inr}
use Rattle.std.proofs.Math.Nat.{mod-eq_of_lt}
use Rattle.std.specs.Int.RustNames.{bit_and}
use Rattle.h41_digits.specs.Spans.{IsFilled}
use Rattle.h41_digits.proofs.Packed.{weight_positive}
use Rattle.h41_digits.proofs.Spans.{first_one, next-le}
use Rattle.h41_digits.proofs.span.Span.from_mask.Goals as goal

-- The places that the code finds for a mask.
found : (mask negative low next lo hi : ℕ) → IsFilled mask lo hi → negative < 2 ^ 64 → (negative + mask) % 2 ^ 64 ≡ 0
    → ((place : ℕ) → place < 15 → bit_and mask negative ≡ 16 ^ place → low ≡ place)
    → ((place : ℕ) → place < 15 → (mask + bit_and mask negative) % 2 ^ 64 ≡ 16 ^ place → next ≡ place)
    → (low ≡ lo) × (next ≡ hi + 1)
found mask negative low next lo hi filled in_word sum is_low is_next =
    let fits : mask < 2 ^ 56 = omega (arith, filled.weights, next-le hi filled.in_register, weight_positive lo) in
    let first : bit_and mask negative ≡ 16 ^ lo =
    first_one lo hi mask negative filled.ordered filled.in_register filled.weights fits in_word sum in
    let behind : (mask + bit_and mask negative) % 2 ^ 64 ≡ 16 ^ (hi + 1) =
    ap (λ n. (mask + n) % 2 ^ 64) first ∙ ap (λ n. n % 2 ^ 64) filled.weights
    ∙ mod-eq_of_lt (omega (arith, next-le hi filled.in_register)) in (
      is_low lo (omega (arith, filled.ordered, filled.in_register)) first,
      is_next (hi + 1) (omega (arith, filled.in_register)) behind,
    )

pub returns-then-next-lo-clause-places : goal.returns-then-next-lo-clause-places
returns-then-next-lo-clause-places c lo hi mask =
    let at = found _ _ _ _ lo hi mask c.wrapping_neg.type_inv c.wrapping_neg.ensures
    c.place_of-lo.ensures c.place_of-next.ensures in
    absurd (elim c.then-next-lo.either [
      | inl below ↦ omega (arith, at.0, at.1, below, mask.ordered)
      | inr past ↦ omega (arith, at.1, past, mask.in_register)
    ])

pub returns-then-span-mask-clause-places : goal.returns-then-span-mask-clause-places
returns-then-span-mask-clause-places c lo hi mask =
    let at = found _ _ _ _ lo hi mask c.wrapping_neg.type_inv c.wrapping_neg.ensures
    c.place_of-lo.ensures c.place_of-next.ensures in
    (c.new-span.ensures.first ∙ at.0, omega (arith, c.new-span.ensures.last, at.1))

pub returns-else-span-mask-clause-places : goal.returns-else-span-mask-clause-places
returns-else-span-mask-clause-places c lo hi mask =
    let at = found _ _ _ _ lo hi mask c.wrapping_neg.type_inv c.wrapping_neg.ensures
    c.place_of-lo.ensures c.place_of-next.ensures in
    let first : c.new-span.result.lo ≡ lo = c.new-span.ensures.first ∙ at.0 in
    let last : c.new-span.result.hi ≡ hi = omega (arith, c.new-span.ensures.last, at.1) in
    let weights : c.new-span.result.mask + 16 ^ lo ≡ 16 ^ (hi + 1) =
    ap (λ n. c.new-span.result.mask + 16 ^ n) (sym first) ∙ c.new-span.result.weights ∙ ap (λ n. 16 ^ (n + 1)) last in
    absurd (c.if-span-mask.false (omega (arith, weights, mask.weights)))
