-- Numbers that parts of a register form: parts that are kept, copied, moved and put together.
use Rattle.std.proofs.Common.{◌≡◌, ℕ, zero, suc, ◌+◌, ◌-◌, ◌*◌, ◌^◌, ◌<◌, ◌≤◌, List, slice_index, refl, ap, sym, ◌∙◌, arith, pow-add}
use Rattle.std.proofs.Math.Nat.{pow-succ', pow-zero, mul-le-mul_left}
use Rattle.std.specs.List.{sum_by, range_with_len}
use Rattle.h41_arith.proofs.Borrows.{sum_more}
use Rattle.h41_arith.specs.DigitRule.{KeepsOutside}
use Rattle.h41_arith.specs.DigitRuleLaws.{number_of}
use Rattle.h41_digits.specs.Register.{IsRegister}
use Rattle.h41_fields.specs.Field.{from_to}

-- The number that some digits form, from a place on.
abbrev pub number_from : ℕ → List ℕ → ℕ → ℕ → ℕ
number_from base x lo count = sum_by (λ place. slice_index x place * base ^ (place - lo)) (range_with_len lo count)

-- A digit more at the left.
pub number_more : (base : ℕ) (x : List ℕ) (lo count : ℕ)
    → number_from base x lo (suc count) ≡ number_from base x lo count + slice_index x (lo + count) * base ^ count
number_more base x lo count =
    let power : lo + count - lo ≡ count = omega arith in
    sum_more (λ place. slice_index x place * base ^ (place - lo)) lo count
    ∙ ap (λ place. number_from base x lo count + slice_index x (lo + count) * base ^ place) power

-- The same digits at other places.
moved_from : (base a b count : ℕ) (x z : List ℕ) → ((index : ℕ) → index < count → slice_index z (b + index) ≡ slice_index x (a + index))
    → number_from base z b count ≡ number_from base x a count
moved_from base a b zero x z same = refl
moved_from base a b (suc count) x z same =
    omega (
      arith,
      number_more base z b count,
      number_more base x a count,
      moved_from base a b count x z (λ index less. same index (omega (arith, less))),
      ap (λ digit. digit * base ^ count) (same count (omega arith)),
    )

-- Digits of z from place b to d are those of x from place a to c.
pub moved_number : (base a c b d : ℕ) (x z : List ℕ) → c + 1 - a ≡ d + 1 - b
    → ((index : ℕ) → index < c + 1 - a → slice_index z (b + index) ≡ slice_index x (a + index))
    → number_of base z b d ≡ number_of base x a c
unfolding from_to
moved_number base a c b d x z size same = ap (number_from base z b) (sym size) ∙ moved_from base a b (c + 1 - a) x z same

pub same_number : (base lo hi : ℕ) (x z : List ℕ) → ((place : ℕ) → lo ≤ place → place ≤ hi → slice_index z place ≡ slice_index x place)
    → number_of base z lo hi ≡ number_of base x lo hi
same_number base lo hi x z same =
    moved_number base lo hi lo hi x z refl (λ index less. same (lo + index) (omega arith) (omega (arith, less)))

-- What a change between two places keeps.
pub kept_above : (base lo hi a b : ℕ) (x z : List ℕ) → hi < a → KeepsOutside x lo hi z → number_of base z a b ≡ number_of base x a b
kept_above base lo hi a b x z apart keeps = same_number base a b x z (λ place from to. keeps.above place (omega (arith, apart, from)))

pub kept_below : (base lo hi a b : ℕ) (x z : List ℕ) → b < lo → KeepsOutside x lo hi z → number_of base z a b ≡ number_of base x a b
kept_below base lo hi a b x z apart keeps = same_number base a b x z (λ place from to. keeps.below place (omega (arith, apart, to)))

-- Two parts, one above the other.
parts_from : (base lo low high : ℕ) (x : List ℕ)
    → number_from base x lo (low + high) ≡ number_from base x lo low + base ^ low * number_from base x (lo + low) high
parts_from base lo low zero x =
    let none : low + 0 ≡ low = omega arith in
    rw none (omega arith)
parts_from base lo low (suc high) x =
    let more : low + suc high ≡ suc (low + high) = omega arith in
    let at : lo + (low + high) ≡ lo + low + high = omega arith in
    rw more (omega (
      arith,
      number_more base x lo (low + high),
      number_more base x (lo + low) high,
      parts_from base lo low high x,
      ap (λ place. slice_index x place * base ^ (low + high)) at,
      weight (slice_index x (lo + low + high)) base low high,
      distributed (base ^ low) (number_from base x (lo + low) high) (slice_index x (lo + low + high) * base ^ high),
      ap (λ number. base ^ low * number) (number_more base x (lo + low) high),
    ))
  where
    swapped : (a b c : ℕ) → a * (b * c) ≡ b * (a * c)
    swapped a b c = omega arith

    weight : (digit base low high : ℕ) → digit * base ^ (low + high) ≡ base ^ low * (digit * base ^ high)
    weight digit base low high = ap (λ power. digit * power) (pow-add base low high) ∙ swapped digit (base ^ low) (base ^ high)

    distributed : (a b c : ℕ) → a * (b + c) ≡ a * b + a * c
    distributed a b c = omega arith

pub parts : (base lo mid hi : ℕ) (x : List ℕ) → lo ≤ mid → mid < hi
    → number_of base x lo hi ≡ number_of base x lo mid + base ^ (mid + 1 - lo) * number_of base x (mid + 1) hi
unfolding from_to
parts base lo mid hi x first second =
    let whole : hi + 1 - lo ≡ (mid + 1 - lo) + (hi + 1 - (mid + 1)) = omega (arith, first, second) in
    let at : lo + (mid + 1 - lo) ≡ mid + 1 = omega (arith, first) in
    ap (number_from base x lo) whole ∙ parts_from base lo (mid + 1 - lo) (hi + 1 - (mid + 1)) x
    ∙ ap (λ place. number_from base x lo (mid + 1 - lo) + base ^ (mid + 1 - lo) * number_from base x place (hi + 1 - (mid + 1))) at

-- A number is below the power of its digits, if they are below the base.
pub below_power : (base : ℕ) (x : List ℕ) (lo count : ℕ)
    → ((place : ℕ) → lo ≤ place → place < lo + count → slice_index x place < base)
    → number_from base x lo count < base ^ count
below_power base x lo zero digits = omega (arith, pow-zero base)
below_power base x lo (suc count) digits =
    omega (
      arith,
      number_more base x lo count,
      pow-succ' base count,
      below_power base x lo count (λ place from less. digits place from (omega (arith, less))),
      mul-le-mul_left (base ^ count) (digits (lo + count) (omega arith) (omega arith)),
    )

pub below : (lo hi : ℕ) (x : List ℕ) → IsRegister 14 x → lo ≤ hi → hi < 14 → number_of 16 x lo hi < 16 ^ (hi + 1 - lo)
unfolding from_to
below lo hi x is ordered inside =
    below_power 16 x lo (hi + 1 - lo) (λ place from less. is.each place 0 (omega (arith, is.size, less, ordered, inside)))
