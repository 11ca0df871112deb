-- Errors of functions: results that are out of range, and quotients that do not exist. Flag 24 is clear.
use Rattle.std.proofs.Common.{◌≡◌, ℕ, Bool, true, false, Ok, Err, refl, sym, subst, Result}
use Rattle.std.specs.Prelude.{MatchBool, IsOkAnd, ◌*◌, ◌==◌, ℤ, pos, negsuc, ◌+ℤ◌, ◌-ℤ◌, ◌*ℤ◌, unsigned_abs, nat_le}
use Rattle.h41_decimal.specs.Holding.{Number, holding_of}
use Rattle.h41_decimal.specs.NearestDecimal.{Fraction, IsBounded, IsRounded, Nearest}
use Rattle.h41_decimal.specs.Operations.{NearestQuotient}
use Rattle.h41_decimal.specs.Signs.{sign_of, with_sign}
use Rattle.h41_decimal.specs.Units.{one, size_of, units}
use Rattle.h41_decimal.specs.declared.fault.DecimalFault.{DecimalFault}
use Rattle.h41_decimal.specs.declared.fault.DecimalFault.TheVariants.{Data, Range}
use Rattle.h41_decimal.specs.declared.sign.Sign.{Sign}
use Rattle.h41_decimal.specs.declared.ten.Ten.{Ten}
use Rattle.h41_decimal.specs.declared.ten.Ten.TheVariants.{Zero}
use Rattle.h41_focal.specs.LineStep.{Works}
use Rattle.h41_ram.specs.NamedFlags.{range_ignore}
use Rattle.h41_ram.specs.RegisterMap.{RegisterMap, flag_of}
use Rattle.h41_rows.specs.Places.{RowPlace, X, Y, register_in}
use Rattle.h41_rows.specs.Rows.{of_x, of_y_and_x}
use Rattle.h41_rows.specs.Values.{IsOfTwo, Kept, OfOne, OfTwo, sign_of_value}
use Rattle.h41_rows.specs.declared.fault.LineFault.TheVariants.{DataError, OutOfRange}
use Rattle.h41_rows.specs.declared.values.ValueOfOne.TheVariants as ones
use Rattle.h41_rows.specs.declared.values.ValueOfTwo.{ValueOfTwo}
use Rattle.h41_rows.specs.declared.values.ValueOfTwo.TheVariants as twos
use Rattle.h41_reasoning_lines.specs.Stacks.{Stack, with_stack}
use Rattle.h41_reasoning_lines.proofs.Computing.{amount_of, answers_one, answers_two}

-- Rounding a fraction gives a decimal or is out of range.
bounded_is_no_data : (sign : Sign) (digits : ℕ) (exponent : ℤ) → IsBounded sign digits exponent (Err Data) → ⊥
bounded_is_no_data sign digits (negsuc steps) is = cc
bounded_is_no_data sign digits (pos steps) is = by (nat_le steps 198) is
  where
    by : (fits : Bool)
        → MatchBool fits
        (let answer : Result Ten DecimalFault = Err Data in
        IsOkAnd answer (λ number. units number ≡ with_sign sign (size_of digits steps)))
        (let answer : Result Ten DecimalFault = Err Data in answer ≡ Err Range)
        → ⊥
    by true is = is
    by false is = cc

pub never_data : (above : ℤ) (below : ℕ) → Nearest above below (Err Data) → ⊥
never_data above below is = by (unsigned_abs above == 0) is
  where
    by : (none : Bool)
        → MatchBool none (let answer : Result Ten DecimalFault = Err Data in answer ≡ Ok Zero)
        (IsRounded (sign_of above) (Fraction (unsigned_abs above) below) (Err Data))
        → ⊥
    by true is = cc
    by false is = bounded_is_no_data (sign_of above) is.digits is.exponent is.bounded

-- A divisor that is not zero has a quotient.
pub never_by_zero : (x y : ℤ) → (unsigned_abs y == 0) ≡ false → NearestQuotient x y (Err Data) → ⊥
never_by_zero x y other is = by (unsigned_abs y == 0) other is
  where
    by : (none : Bool) → none ≡ false
        → MatchBool none (let answer : Result Ten DecimalFault = Err Data in answer ≡ Err Data)
        (Nearest (x *ℤ y *ℤ pos one) (unsigned_abs y * unsigned_abs y) (Err Data))
        → ⊥
    by true never is = cc
    by false never is = never_data (x *ℤ y *ℤ pos one) (unsigned_abs y * unsigned_abs y) is

pub kept_out : (sign : Sign) (ignored : Bool) → ignored ≡ false → Kept sign ignored (Err Range) (Err OutOfRange)
kept_out sign true never = absurd (cc)
kept_out sign false clear = refl

-- With numbers in two places.
module _ (memory : RegisterMap) (named : ℕ) (p q : RowPlace) (y x : ℤ) (in_p : holding_of (register_in memory named p) ≡ Number y)
    (in_q : holding_of (register_in memory named q) ≡ Number x) (clear : flag_of memory range_ignore ≡ false) where
  pub out_of_two : (two : ValueOfTwo) → IsOfTwo two y x (Err Range) → Works memory named (of_y_and_x (OfTwo two p q)) (Err OutOfRange)
  out_of_two two nearest =
      answers_two memory named p q y x in_p in_q two (Err Range) (Err OutOfRange) nearest
      (kept_out (sign_of_value (OfTwo two p q) memory named) (flag_of memory range_ignore) clear)

-- With numbers in Y and X.
module _ (stack : Stack) (memory : RegisterMap) (y x : ℤ) (in_y : holding_of stack.y ≡ Number y) (in_x : holding_of stack.x ≡ Number x)
    (clear : flag_of (with_stack stack memory) range_ignore ≡ false) where
  abbrev here : RegisterMap
  here = with_stack stack memory

  pub sum_is_out : Nearest (y +ℤ x) 1 (Err Range) → Works here 0 (of_y_and_x (OfTwo twos.Sum Y X)) (Err OutOfRange)
  sum_is_out nearest = out_of_two here 0 Y X y x in_y in_x clear twos.Sum nearest

  pub difference_is_out : Nearest (y -ℤ x) 1 (Err Range) → Works here 0 (of_y_and_x (OfTwo twos.Difference Y X)) (Err OutOfRange)
  difference_is_out nearest = out_of_two here 0 Y X y x in_y in_x clear twos.Difference nearest

  pub product_is_out : Nearest (y *ℤ x) one (Err Range) → Works here 0 (of_y_and_x (OfTwo twos.Product Y X)) (Err OutOfRange)
  product_is_out nearest = out_of_two here 0 Y X y x in_y in_x clear twos.Product nearest

  pub quotient_is_out : NearestQuotient y x (Err Range) → Works here 0 (of_y_and_x (OfTwo twos.Quotient Y X)) (Err OutOfRange)
  quotient_is_out nearest = out_of_two here 0 Y X y x in_y in_x clear twos.Quotient nearest

  -- Division by zero.
  pub no_quotient : NearestQuotient y x (Err Data) → Works here 0 (of_y_and_x (OfTwo twos.Quotient Y X)) (Err DataError)
  no_quotient nearest = answers_two here 0 Y X y x in_y in_x twos.Quotient (Err Data) (Err DataError) nearest refl

-- With a number in X.
module _ (stack : Stack) (memory : RegisterMap) (x : ℤ) (in_x : holding_of stack.x ≡ Number x)
    (clear : flag_of (with_stack stack memory) range_ignore ≡ false) where
  pub square_is_out : Nearest (x *ℤ x) one (Err Range)
      → Works (with_stack stack memory) 0 (of_x (OfTwo twos.Product X X)) (Err OutOfRange)
  square_is_out nearest = out_of_two (with_stack stack memory) 0 X X x x in_x in_x clear twos.Product nearest

  pub inverse_is_out : NearestQuotient (pos one) x (Err Range)
      → Works (with_stack stack memory) 0 (of_x (OfOne ones.Inverse X)) (Err OutOfRange)
  inverse_is_out nearest =
      answers_one stack memory x in_x ones.Inverse (Err Range) (Err OutOfRange)
      (subst (λ (a : ℤ). NearestQuotient (pos one) a (Err Range)) (sym (amount_of stack.x x in_x)) nearest)
      (kept_out (sign_of_value (OfOne ones.Inverse X) (with_stack stack memory) 0) (flag_of (with_stack stack memory) range_ignore) clear)

  -- 1/X of zero.
  pub no_inverse : NearestQuotient (pos one) x (Err Data)
      → Works (with_stack stack memory) 0 (of_x (OfOne ones.Inverse X)) (Err DataError)
  no_inverse nearest =
      answers_one stack memory x in_x ones.Inverse (Err Data) (Err DataError)
      (subst (λ (a : ℤ). NearestQuotient (pos one) a (Err Data)) (sym (amount_of stack.x x in_x)) nearest) refl
