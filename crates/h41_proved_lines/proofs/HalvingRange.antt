-- The middle of a bracket of numbers of at most 10^49, and its square, are in range.
use Rattle.std.proofs.Common.{◌≡◌, ℕ, ◌*◌, ◌^◌, ◌<◌, ◌≤◌, Result, Ok, ap, ◌∙◌, subst, arith}
use Rattle.std.specs.Prelude.{ℤ, pos, ◌+ℤ◌, ◌*ℤ◌, unsigned_abs}
use Rattle.std.proofs.Math.Nat.{mul-le-mul}
use Rattle.std.proofs.lemmas.Int.{ints, unsigned_abs-mul}
use Rattle.h41_decimal.specs.NearestDecimal.{Nearest}
use Rattle.h41_decimal.specs.Units.{one, units}
use Rattle.h41_decimal.specs.declared.fault.DecimalFault.{DecimalFault}
use Rattle.h41_decimal.specs.declared.ten.Ten.{Ten}
use Rattle.h41_laws_words.specs.DecimalAnswers.{FractionHasOneNearest}
use Rattle.h41_reasoning_lines.proofs.Ranges.{nearest_within}
use Rattle.h41_proved_lines.specs.Bisection.{IsMiddle, IsSquare}
use Rattle.h41_proved_lines.specs.BisectionLoop.{greatest_bound}

sum_size : (a b : ℤ) (most : ℕ) → unsigned_abs a ≤ most → unsigned_abs b ≤ most → unsigned_abs (a +ℤ b) ≤ 2 * most
sum_size a b most one_size two_size = omega (arith, ints)

module _ (has : FractionHasOneNearest) where
  -- A nearest decimal within a bound.
  pub record HasWithin (most : ℕ) (above : ℤ) (below : ℕ) : Type 0 where
    pub ten : Ten
    pub nearest : Nearest above below (Ok ten)
    pub within : unsigned_abs (units ten) ≤ most

  there : (first steps : ℕ) → 1 ≤ first → first ≤ 9 → 9 ≤ steps → steps ≤ 207 → (above : ℤ) (below : ℕ) → 0 < below
      → unsigned_abs above ≤ first * 10 ^ steps * below → HasWithin (first * 10 ^ steps) above below
  there first steps some digit long short above below positive at_most =
      let found = has above below positive in
      let inside = nearest_within first steps some digit long short above below found.answer positive at_most found.right in
      record {
        ten = inside.ten;
        nearest = subst (λ (answer : Result Ten DecimalFault). Nearest above below answer) inside.is found.right;
        within = inside.within;
      }

  half_size : (sum : ℤ) → unsigned_abs sum ≤ 2 * 10 ^ 157
      → unsigned_abs (sum *ℤ pos (2 * one) *ℤ pos one) ≤ 1 * 10 ^ 157 * (2 * one * (2 * one))
  half_size sum small =
      let product : unsigned_abs (sum *ℤ pos (2 * one) *ℤ pos one) ≡ unsigned_abs sum * (2 * one) * one =
      unsigned_abs-mul (sum *ℤ pos (2 * one)) (pos one) ∙ ap (λ (n : ℕ). n * one) (unsigned_abs-mul sum (pos (2 * one))) in
      omega (arith, product, small)

  -- The middle is not above the greatest_bound.
  pub middle_there : (low high : ℤ) → unsigned_abs low ≤ greatest_bound → unsigned_abs high ≤ greatest_bound
      → (middle : Ten) × IsMiddle low high middle × (unsigned_abs (units middle) ≤ greatest_bound)
  middle_there low high low_size high_size =
      let size : unsigned_abs (low +ℤ high) ≤ 2 * greatest_bound = sum_size low high greatest_bound low_size high_size in
      let sum = there 2 157 (omega arith) (omega arith) (omega arith) (omega arith) (low +ℤ high) 1 (omega arith) (omega (arith, size)) in
      let half = there 1 157 (omega arith) (omega arith) (omega arith) (omega arith) (units sum.ten *ℤ pos (2 * one) *ℤ pos one)
      (2 * one * (2 * one)) (omega arith) (half_size (units sum.ten) sum.within) in
      (half.ten, (sum.ten, sum.nearest, half.nearest), omega (arith, half.within))

  square_size : (n : ℕ) → n ≤ greatest_bound → n * n ≤ 1 * 10 ^ 206 * one
  square_size n small = let product : n * n ≤ greatest_bound * greatest_bound = mul-le-mul small small in omega (arith, product)

  -- Its square is in range.
  pub square_there : (number : ℤ) → unsigned_abs number ≤ greatest_bound → (square : Ten) × IsSquare number square
  square_there number small =
      let product : unsigned_abs (number *ℤ number) ≡ unsigned_abs number * unsigned_abs number = unsigned_abs-mul number number in
      let square = there 1 206 (omega arith) (omega arith) (omega arith) (omega arith) (number *ℤ number) one (omega arith)
      (omega (arith, product, square_size (unsigned_abs number) small)) in
      (square.ten, square.nearest)
