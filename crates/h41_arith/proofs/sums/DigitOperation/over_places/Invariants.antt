use Rattle.std.proofs.Common.{◌≡◌, ℕ, ◌<◌, ◌≤◌, slice_index}
use Rattle.h41_digits.specs.Register.{IsRegister}
use Rattle.h41_arith.specs.DigitRule.{carry_digit, zeros}
use Rattle.h41_arith.specs.private.DigitOperations.{rule_of}
use Rattle.h41_arith.proofs.Carries.{CarriedTo}
use Rattle.h41_arith.proofs.sums.DigitOperation.over_places.Given as goal

-- The rule holds up to the place, and the places outside are those of a register of zeros.
abbrev pub invariant-loop-place : goal.invariant-loop-place
invariant-loop-place l = record {
  carried : CarriedTo (rule_of l.self 10) l.x l.y (carry_digit l.fn.carry_in) l.fn.lo l.place l.digits (carry_digit l.carry);
  below : (place : ℕ) → place < l.fn.lo → slice_index l.digits place ≡ slice_index zeros place;
  above : (place : ℕ) → l.place ≤ place → slice_index l.digits place ≡ slice_index zeros place;
  registers : l.fn.lo < l.place → IsRegister 14 l.digits × IsRegister 14 l.x × IsRegister 14 l.y;
}
