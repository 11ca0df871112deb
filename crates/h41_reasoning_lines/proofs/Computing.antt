-- What functions of one number and of two compute, from the numbers in registers.
use Rattle.std.proofs.Common.{◌≡◌, ℕ, Bool, true, false, List, [], ◌∷◌, Option, Some, None, Result, Ok, Err, refl, sym, ap, ◌∙◌, subst}
use Rattle.std.specs.Prelude.{MatchBool, ◌&&◌, int_le, int_lt, is_some, ℤ, pos, ◌+ℤ◌, ◌-ℤ◌, ◌*ℤ◌, neg_ℤ, unsigned_abs}
use Rattle.std.specs.Option.{option_map_or}
use Rattle.h41_decimal.specs.Holding.{Number, holding_of, number_in, worth}
use Rattle.h41_decimal.specs.NearestDecimal.{Nearest, NearestRoot}
use Rattle.h41_decimal.specs.Operations.{NearestModulo, NearestQuotient}
use Rattle.h41_decimal.specs.Units.{one, units}
use Rattle.h41_decimal.specs.WholeParts.{IsFraction, IsIntegerPart}
use Rattle.h41_decimal.specs.declared.fault.DecimalFault.{DecimalFault}
use Rattle.h41_decimal.specs.declared.ten.Ten.{Ten}
use Rattle.h41_decimal.proofs.Registers.{worth-holding_of}
use Rattle.h41_focal.specs.LineStep.{Works}
use Rattle.h41_ram.specs.NamedFlags.{range_ignore}
use Rattle.h41_ram.specs.RegisterMap.{RegisterMap, flag_of}
use Rattle.h41_rows.specs.Places.{RowPlace, X, Y, amount_in, are_numbers, register_in}
use Rattle.h41_rows.specs.RowEffects.{holds_in}
use Rattle.h41_rows.specs.Rows.{AtMost, Below, In, Nought, compute, lifting_row, of_x, of_y_and_x}
use Rattle.h41_rows.specs.Values.{Computes, IsOfTwo, IsRegisterOf, IsValue, Kept, OfOne, OfTwo, sign_of_value, unit_of}
use Rattle.h41_rows.specs.declared.fault.LineFault.{LineFault}
use Rattle.h41_rows.specs.declared.fault.LineFault.TheVariants.{AlphaData}
use Rattle.h41_rows.specs.declared.values.ValueOfOne.{ValueOfOne}
use Rattle.h41_rows.specs.declared.values.ValueOfOne.TheVariants as ones
use Rattle.h41_rows.specs.declared.values.ValueOfTwo.{ValueOfTwo}
use Rattle.h41_rows.specs.declared.values.ValueOfTwo.TheVariants as twos
use Rattle.h41_reasoning_lines.specs.Stacks.{Stack, with_stack}
use Rattle.h41_reasoning_lines.proofs.Stepping.{holding_true}

-- The number that a register contains can be read.
pub number_there : (register : List ℕ) (number : ℤ) → holding_of register ≡ Number number → number_in register ≡ Some number
number_there register number holds = sym (worth-holding_of register) ∙ ap worth holds

pub there : (found : Option ℤ) (number : ℤ) → found ≡ Some number → is_some found ≡ true
there (Some other) number is = refl
there None number is = absurd (cc)

pub both : (first second : Bool) → first ≡ true → second ≡ true → (first && (second && true)) ≡ true
both true true is other = refl
both true false is other = other
both false second is other = is

pub amount_of : (register : List ℕ) (number : ℤ) → holding_of register ≡ Number number
    → option_map_or (λ (value : ℤ). value) (worth (holding_of register)) (pos 0) ≡ number
amount_of register number holds = ap (λ holding. option_map_or (λ (value : ℤ). value) (worth holding) (pos 0)) holds

-- A register that contains a number has one.
pub contains : (register : List ℕ) (number : ℤ) → holding_of register ≡ Number number → is_some (number_in register) ≡ true
contains register number holds = there (number_in register) number (number_there register number holds)

-- With numbers in two places.
module _ (memory : RegisterMap) (named : ℕ) (p q : RowPlace) (y x : ℤ) (in_p : holding_of (register_in memory named p) ≡ Number y)
    (in_q : holding_of (register_in memory named q) ≡ Number x) where
  pub are_both : are_numbers memory named (p ∷ q ∷ []) ≡ true
  are_both =
      both (is_some (number_in (register_in memory named p))) (is_some (number_in (register_in memory named q)))
      (contains (register_in memory named p) y in_p) (contains (register_in memory named q) x in_q)

  -- The result for a value of the numbers is the result for the amounts in the places.
  pub answers_two : (two : ValueOfTwo) (answer : Result Ten DecimalFault) (result : Result (List ℕ) LineFault) → IsOfTwo two y x answer
      → Kept (sign_of_value (OfTwo two p q) memory named) (flag_of memory range_ignore) answer result
      → Works memory named (of_y_and_x (OfTwo two p q)) result
  answers_two two answer result nearest kept =
      holding_true (are_numbers memory named (p ∷ q ∷ [])) _ _ are_both
      record {
        answer = answer;
        nearest =
            subst (λ (a : ℤ). IsOfTwo two a (amount_in memory named q) answer) (sym (amount_of (register_in memory named p) y in_p))
            (subst (λ (b : ℤ). IsOfTwo two y b answer) (sym (amount_of (register_in memory named q) x in_q)) nearest);
        kept = kept;
      }

-- With a number in X.
module _ (stack : Stack) (memory : RegisterMap) (x : ℤ) (in_x : holding_of stack.x ≡ Number x) where
  -- A test of whether X contains a number is true.
  pub only_x : are_numbers (with_stack stack memory) 0 (X ∷ []) ≡ true
  only_x = both true (is_some (number_in stack.x)) refl (contains stack.x x in_x)

  pub answers_one : (value : ValueOfOne) (answer : Result Ten DecimalFault) (result : Result (List ℕ) LineFault)
      → IsValue (OfOne value X) (with_stack stack memory) 0 answer
      → Kept (sign_of_value (OfOne value X) (with_stack stack memory) 0) (flag_of (with_stack stack memory) range_ignore) answer result
      → MatchBool (are_numbers (with_stack stack memory) 0 (X ∷ [])) (Computes (OfOne value X) (with_stack stack memory) 0 result)
      (result ≡ Err AlphaData)
  answers_one value answer result nearest kept =
      holding_true (are_numbers (with_stack stack memory) 0 (X ∷ [])) _ _ only_x
      record { answer = answer; nearest = nearest; kept = kept }

-- With numbers in Y and X.
module _ (stack : Stack) (memory : RegisterMap) (y x : ℤ) (in_y : holding_of stack.y ≡ Number y) (in_x : holding_of stack.x ≡ Number x)
    (answer : Ten) (result : List ℕ) (is : IsRegisterOf (units answer) result) where
  abbrev here : RegisterMap
  here = with_stack stack memory

  pub added : Nearest (y +ℤ x) 1 (Ok answer) → Works here 0 (of_y_and_x (OfTwo twos.Sum Y X)) (Ok result)
  added nearest = answers_two here 0 Y X y x in_y in_x twos.Sum (Ok answer) (Ok result) nearest is

  pub subtracted : Nearest (y -ℤ x) 1 (Ok answer) → Works here 0 (of_y_and_x (OfTwo twos.Difference Y X)) (Ok result)
  subtracted nearest = answers_two here 0 Y X y x in_y in_x twos.Difference (Ok answer) (Ok result) nearest is

  pub multiplied : Nearest (y *ℤ x) one (Ok answer) → Works here 0 (of_y_and_x (OfTwo twos.Product Y X)) (Ok result)
  multiplied nearest = answers_two here 0 Y X y x in_y in_x twos.Product (Ok answer) (Ok result) nearest is

  pub divided : NearestQuotient y x (Ok answer) → Works here 0 (of_y_and_x (OfTwo twos.Quotient Y X)) (Ok result)
  divided nearest = answers_two here 0 Y X y x in_y in_x twos.Quotient (Ok answer) (Ok result) nearest is

  pub reduced : (a b : Ten) → units a ≡ y → units b ≡ x → NearestModulo a b (Ok answer)
      → Works here 0 (of_y_and_x (OfTwo twos.Remainder Y X)) (Ok result)
  reduced a b a_is b_is nearest =
      answers_two here 0 Y X y x in_y in_x twos.Remainder (Ok answer) (Ok result) (a, b, a_is, b_is, nearest) is

-- With a number in X.
module _ (stack : Stack) (memory : RegisterMap) (x : ℤ) (in_x : holding_of stack.x ≡ Number x) (answer : Ten) (result : List ℕ)
    (is : IsRegisterOf (units answer) result) where
  -- X^2.
  pub squared : Nearest (x *ℤ x) one (Ok answer) → Works (with_stack stack memory) 0 (of_x (OfTwo twos.Product X X)) (Ok result)
  squared nearest = answers_two (with_stack stack memory) 0 X X x x in_x in_x twos.Product (Ok answer) (Ok result) nearest is

  pub made_absolute : Nearest (pos (unsigned_abs x)) 1 (Ok answer)
      → Works (with_stack stack memory) 0 (of_x (OfOne ones.AbsoluteValue X)) (Ok result)
  made_absolute nearest =
      answers_one stack memory x in_x ones.AbsoluteValue (Ok answer) (Ok result)
      (subst (λ (a : ℤ). Nearest (pos (unsigned_abs a)) 1 (Ok answer)) (sym (amount_of stack.x x in_x)) nearest) is

  -- CHS.
  pub made_negative : Nearest (neg_ℤ x) 1 (Ok answer)
      → Works (with_stack stack memory) 0 (record lifting_row { value = Some (OfOne ones.Negative X); takes = compute X ∷ [] }) (Ok result)
  made_negative nearest =
      answers_one stack memory x in_x ones.Negative (Ok answer) (Ok result)
      (subst (λ (a : ℤ). Nearest (neg_ℤ a) 1 (Ok answer)) (sym (amount_of stack.x x in_x)) nearest) is

  -- SQRT and 1/X.
  pub rooted : NearestRoot x (Ok answer) → Works (with_stack stack memory) 0 (of_x (OfOne ones.Root X)) (Ok result)
  rooted nearest =
      answers_one stack memory x in_x ones.Root (Ok answer) (Ok result)
      (subst (λ (a : ℤ). NearestRoot a (Ok answer)) (sym (amount_of stack.x x in_x)) nearest) is

  pub inverted : NearestQuotient (pos one) x (Ok answer) → Works (with_stack stack memory) 0 (of_x (OfOne ones.Inverse X)) (Ok result)
  inverted nearest =
      answers_one stack memory x in_x ones.Inverse (Ok answer) (Ok result)
      (subst (λ (a : ℤ). NearestQuotient (pos one) a (Ok answer)) (sym (amount_of stack.x x in_x)) nearest) is

  -- INT.
  pub made_whole : (part : ℤ) → IsIntegerPart x part → Nearest part 1 (Ok answer)
      → Works (with_stack stack memory) 0 (of_x (OfOne ones.IntegerPart X)) (Ok result)
  made_whole part is_part nearest =
      answers_one stack memory x in_x ones.IntegerPart (Ok answer) (Ok result)
      (part, subst (λ (a : ℤ). IsIntegerPart a part) (sym (amount_of stack.x x in_x)) is_part, nearest) is

  -- FRC.
  pub made_fraction : (rest : ℤ) → IsFraction x rest → Nearest rest 1 (Ok answer)
      → Works (with_stack stack memory) 0 (of_x (OfOne ones.Fraction X)) (Ok result)
  made_fraction rest is_rest nearest =
      answers_one stack memory x in_x ones.Fraction (Ok answer) (Ok result)
      (rest, subst (λ (a : ℤ). IsFraction a rest) (sym (amount_of stack.x x in_x)) is_rest, nearest) is

  -- SIGN.
  pub made_unit : Nearest (unit_of x) 1 (Ok answer) → Works (with_stack stack memory) 0 (of_x (OfOne ones.Unit X)) (Ok result)
  made_unit nearest = record {
    answer = Ok answer;
    nearest = subst (λ (a : ℤ). Nearest a 1 (Ok answer)) (sym unit_is) nearest;
    kept = is;
  }
    where
      unit_is : option_map_or unit_of (worth (holding_of stack.x)) (pos 0) ≡ unit_of x
      unit_is = ap (λ holding. option_map_or unit_of (worth holding) (pos 0)) in_x

-- Comparisons of X with zero.
module _ (stack : Stack) (memory : RegisterMap) (x : ℤ) (in_x : holding_of stack.x ≡ Number x) where
  pub comparable_x : are_numbers (with_stack stack memory) 0 (X ∷ []) ≡ true
  comparable_x = only_x stack memory x in_x

  -- X>0?
  pub tells_positive : holds_in (with_stack stack memory) 0 (Below Nought (In X)) ≡ int_lt (pos 0) x
  tells_positive = ap (λ (a : ℤ). int_lt (pos 0) a) (amount_of stack.x x in_x)

  -- X<0?
  pub tells_negative : holds_in (with_stack stack memory) 0 (Below (In X) Nought) ≡ int_lt x (pos 0)
  tells_negative = ap (λ (a : ℤ). int_lt a (pos 0)) (amount_of stack.x x in_x)

  -- X<=0?
  pub tells_not_positive : holds_in (with_stack stack memory) 0 (AtMost (In X) Nought) ≡ int_le x (pos 0)
  tells_not_positive = ap (λ (a : ℤ). int_le a (pos 0)) (amount_of stack.x x in_x)

-- Comparisons of X and Y.
module _ (stack : Stack) (memory : RegisterMap) (y x : ℤ) (in_y : holding_of stack.y ≡ Number y)
    (in_x : holding_of stack.x ≡ Number x) where
  pub comparable : are_numbers (with_stack stack memory) 0 (X ∷ Y ∷ []) ≡ true
  comparable = are_both (with_stack stack memory) 0 X Y x y in_x in_y

  -- X<Y?
  pub tells_below : holds_in (with_stack stack memory) 0 (Below (In X) (In Y)) ≡ int_lt x y
  tells_below =
      ap (λ (a : ℤ). int_lt a (amount_in (with_stack stack memory) 0 Y)) (amount_of stack.x x in_x)
      ∙ ap (λ (b : ℤ). int_lt x b) (amount_of stack.y y in_y)

  -- X<=Y?
  pub tells_at_most : holds_in (with_stack stack memory) 0 (AtMost (In X) (In Y)) ≡ int_le x y
  tells_at_most =
      ap (λ (a : ℤ). int_le a (amount_in (with_stack stack memory) 0 Y)) (amount_of stack.x x in_x)
      ∙ ap (λ (b : ℤ). int_le x b) (amount_of stack.y y in_y)

  pub comparable_turned : are_numbers (with_stack stack memory) 0 (Y ∷ X ∷ []) ≡ true
  comparable_turned = are_both (with_stack stack memory) 0 Y X y x in_y in_x

  -- X>Y?
  pub tells_above : holds_in (with_stack stack memory) 0 (Below (In Y) (In X)) ≡ int_lt y x
  tells_above =
      ap (λ (b : ℤ). int_lt b (amount_in (with_stack stack memory) 0 X)) (amount_of stack.y y in_y)
      ∙ ap (λ (a : ℤ). int_lt y a) (amount_of stack.x x in_x)
