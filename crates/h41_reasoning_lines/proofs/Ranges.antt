-- Results in range: the nearest decimal of a fraction that is not above a decimal is not above it either.
use Rattle.std.proofs.Common.{◌≡◌, ℕ, ◌+◌, ◌-◌, ◌*◌, ◌^◌, ◌<◌, ◌≤◌, Bool, true, false, MatchBool, IsOkAnd, Result, Ok, Err}
use Rattle.std.proofs.Common.{inl, inr, refl, ap, ◌∙◌, subst, arith}
use Rattle.std.specs.Prelude.{ℤ, pos, negsuc, ◌==◌, nat_le, unsigned_abs}
use Rattle.std.proofs.Math.Nat.{mul-le-mul_right}
use Rattle.std.proofs.lemmas.Bool.{cases_lt}
use Rattle.std.proofs.lemmas.Bool.{le-leb}
use Rattle.h41_decimal.specs.NearestDecimal.{Fraction, IsAtLeast, IsBounded, IsNear, IsRounded, IsTenDigits, Nearest, down_of, up_of}
use Rattle.h41_decimal.specs.Signs.{sign_of, with_sign}
use Rattle.h41_decimal.specs.Units.{size_of, units}
use Rattle.h41_decimal.specs.declared.fault.DecimalFault.{DecimalFault}
use Rattle.h41_decimal.specs.declared.fault.DecimalFault.TheVariants.{Range}
use Rattle.h41_decimal.specs.declared.sign.Sign.{Sign}
use Rattle.h41_decimal.specs.declared.ten.Ten.{Ten}
use Rattle.h41_decimal.specs.declared.ten.Ten.TheVariants.{Zero}
use Rattle.h41_decimal.proofs.Cuts.{power_parts}
use Rattle.h41_decimal.proofs.Nearest.{ten_pow_pos}
use Rattle.h41_decimal.proofs.Tens.{unsigned_abs-signed}

-- An answer is a decimal of at most this size, in units.
pub record IsWithin (most : ℕ) (answer : Result Ten DecimalFault) : Type 0 where
  pub ten : Ten
  pub is : answer ≡ Ok ten
  pub within : unsigned_abs (units ten) ≤ most

too_big : (most size d n : ℕ) → most < size → 0 < d → n ≤ most * d → (size + most) * d ≤ n * 2 → ⊥
too_big most size d n less some at_most least =
    let more : (2 * most + 1) * d ≤ (size + most) * d = mul-le-mul_right d (omega (arith, less)) in
    omega (arith, more, some, at_most, least)

ok_part : (answer : Result Ten DecimalFault) (Holds : Ten → Type 0) → IsOkAnd answer Holds → (ten : Ten) × (answer ≡ Ok ten) × Holds ten
ok_part (Ok ten) Holds is = (ten, refl, is)
ok_part (Err fault) Holds is = absurd is

-- Bounds of one digit times a power of ten.
module _ (first steps : ℕ) (some : 1 ≤ first) (one_digit : first ≤ 9) (long : 9 ≤ steps) (short : steps ≤ 207) where
  abbrev most : ℕ
  most = first * 10 ^ steps

  others_ten : IsTenDigits (first * 10 ^ 9)
  others_ten = record { at_least = omega (arith, some); below = omega (arith, one_digit) }

  others_size : (first * 10 ^ 9) * (10 ^ (steps - 9) * 10 ^ 0) ≡ most
  others_size =
      let parts : 10 ^ 9 * 10 ^ (steps - 9) ≡ 10 ^ steps = power_parts 9 (steps - 9) steps (omega (arith, long)) in
      let product : first * (10 ^ 9 * 10 ^ (steps - 9)) ≡ first * 10 ^ steps = ap (λ (n : ℕ). first * n) parts in
      omega (arith, product)

  -- The exponent of ten digits that are not above the bound.
  few_steps : (digits up : ℕ) → 10 ^ 9 ≤ digits → digits * 10 ^ up ≤ most → up ≤ 198
  few_steps digits up enough within = elim (cases_lt 198 up) [
    | inl above ↦
        let parts : 10 ^ (up - 199) * 10 ^ 199 ≡ 10 ^ up = power_parts (up - 199) 199 up (omega (arith, above)) in
        let few : 10 ^ (207 - steps) * 10 ^ steps ≡ 10 ^ 207 = power_parts (207 - steps) steps 207 (omega (arith, short)) in
        let one_up : 1 * 10 ^ 199 ≤ 10 ^ (up - 199) * 10 ^ 199 = mul-le-mul_right (10 ^ 199) (ten_pow_pos (up - 199)) in
        let one_few : 1 * 10 ^ steps ≤ 10 ^ (207 - steps) * 10 ^ steps = mul-le-mul_right (10 ^ steps) (ten_pow_pos (207 - steps)) in
        let least : 10 ^ 9 * 10 ^ up ≤ digits * 10 ^ up = mul-le-mul_right (10 ^ up) enough in
        let less : first * 10 ^ steps ≤ 9 * 10 ^ steps = mul-le-mul_right (10 ^ steps) one_digit in
        absurd (omega (arith, parts, few, one_up, one_few, least, less, within))
    | inr within ↦ within
  ]

  -- A fraction that is not above the bound.
  module _ (n d : ℕ) (above_none : 0 < d) (at_most : n ≤ most * d) where
    digits_within : (digits up : ℕ) → IsNear (Fraction n d) digits up 0 → digits * 10 ^ up ≤ most
    digits_within digits up near = elim (cases_lt most (digits * 10 ^ up)) [
      | inl above ↦
          let less : (first * 10 ^ 9) * (10 ^ (steps - 9) * 10 ^ 0) < digits * (10 ^ up * 10 ^ 0) = omega (arith, others_size, above) in
          let far : IsAtLeast (Fraction n d) (digits * (10 ^ up * 10 ^ 0) + (first * 10 ^ 9) * (10 ^ (steps - 9) * 10 ^ 0))
          (2 * (10 ^ 0 * 10 ^ 0)) =
          near.smaller (first * 10 ^ 9) (steps - 9) 0 others_ten less in
          let sizes : (digits * (10 ^ up * 10 ^ 0) + (first * 10 ^ 9) * (10 ^ (steps - 9) * 10 ^ 0)) ≡ digits * 10 ^ up + most =
          omega (arith, others_size) in
          let scaled : (digits * 10 ^ up + most) * d ≤ n * 2 = subst (λ (size : ℕ). size * d ≤ n * 2) sizes far in
          absurd (too_big most (digits * 10 ^ up) d n above above_none at_most scaled)
      | inr within ↦ within
    ]

    bounded_within : (sign : Sign) (digits : ℕ) (exponent : ℤ) (answer : Result Ten DecimalFault) → IsTenDigits digits
        → IsNear (Fraction n d) digits (up_of exponent) (down_of exponent) → IsBounded sign digits exponent answer → IsWithin most answer
    bounded_within sign digits (negsuc down) answer ten near bounded =
        record { ten = Zero; is = bounded; within = omega arith }
    bounded_within sign digits (pos up) answer ten near bounded =
        let within = digits_within digits up near in
        let inside : nat_le up 198 ≡ true = le-leb up 198 (few_steps digits up ten.at_least within) in
        let found = ok_part answer (λ (number : Ten). units number ≡ with_sign sign (size_of digits up))
        (subst (λ (b : Bool). MatchBool b (IsOkAnd answer (λ number. units number ≡ with_sign sign (size_of digits up)))
        (answer ≡ Err Range))
        inside bounded) in
        let size : unsigned_abs (units found.0) ≡ digits * 10 ^ up =
        ap unsigned_abs found.2 ∙ unsigned_abs-signed sign (digits * 10 ^ up) in
        record { ten = found.0; is = found.1; within = omega (arith, size, within) }

    rounded_within : (sign : Sign) (answer : Result Ten DecimalFault) → IsRounded sign (Fraction n d) answer → IsWithin most answer
    rounded_within sign answer is = bounded_within sign is.digits is.exponent answer is.ten_digits is.near is.bounded

  pub nearest_within : (above : ℤ) (below : ℕ) (answer : Result Ten DecimalFault) → 0 < below → unsigned_abs above ≤ most * below
      → Nearest above below answer → IsWithin most answer
  nearest_within above below answer some at_most nearest = by_test (unsigned_abs above == 0) nearest
    where
      by_test : (none : Bool) → MatchBool none (answer ≡ Ok Zero) (IsRounded (sign_of above) (Fraction (unsigned_abs above) below) answer)
          → IsWithin most answer
      by_test true is = record { ten = Zero; is = is; within = omega arith }
      by_test false is = rounded_within (unsigned_abs above) below some at_most (sign_of above) answer is
