-- Whole numbers of up to ten digits: their decimals, their remainders, and the register of zero.
use Rattle.std.proofs.Common.{◌≡◌, ℕ, zero, suc, ◌+◌, ◌-◌, ◌*◌, ◌^◌, ◌<◌, ◌≤◌, ◌⊎◌, true, false, List, Result, Ok, ⊎_elim}
use Rattle.std.proofs.Common.{inl, inr, refl, sym, ap, ◌∙◌, subst, arith}
use Rattle.std.specs.Prelude.{int_le, int_lt, not, ℤ, pos, negsuc, neg_ℤ, ◌*ℤ◌, ◌==◌, MatchBool, unsigned_abs}
use Rattle.std.proofs.Math.IntN.{negsuc-*ℤ-pos, pos-*ℤ-pos}
use Rattle.std.specs.Str.{bytes_eq}
use Rattle.std.proofs.lemmas.Bool.{cases_lt, false_from_ne_true}
use Rattle.std.proofs.lemmas.Grind.{common_steps}
use Rattle.std.proofs.lemmas.List.Elements.{All-replicate}
use Rattle.std.proofs.lemmas.Slice.Eq.{bytes_eq-Decides}
use Rattle.h41_decimal.specs.Holding.{Number, holding_of}
use Rattle.h41_decimal.specs.Laws.{DecimalIsItsNearest, RegisterIsDetermined, UnitsAreInjective}
use Rattle.h41_decimal.specs.NearestDecimal.{Nearest}
use Rattle.h41_decimal.specs.Operations.{NearestModulo, RoundsRest}
use Rattle.h41_decimal.specs.Units.{one, size, units}
use Rattle.h41_decimal.specs.declared.fault.DecimalFault.{DecimalFault}
use Rattle.h41_decimal.specs.declared.sign.Sign.TheVariants.{Plus}
use Rattle.h41_decimal.specs.declared.ten.Ten.{Ten}
use Rattle.h41_decimal.specs.declared.ten.Ten.TheVariants.{Zero, Nonzero}
use Rattle.h41_decimal.proofs.Floors.{rest_of_same}
use Rattle.h41_decimal.proofs.Signed.{not_zero}
use Rattle.h41_decimal.proofs.Wholes.{filled_worth}
use Rattle.h41_digits.specs.Register.{IsRegister}
use Rattle.h41_ram.specs.RegisterMap.{zeros}
use Rattle.h41_rows.specs.Values.{IsRegisterOf}
use Rattle.h41_reasoning_lines.proofs.SignedDecimals.{opposite}

-- A whole number, in units.
abbrev pub whole : ℕ → ℤ
whole number = pos (number * one)

-- Comparisons of numbers that are not negative.
pub lt_holds : (a b : ℕ) → a < b → int_lt (pos a) (pos b) ≡ true
lt_holds a b less = grind (arith, common_steps)

pub lt_fails : (a b : ℕ) → b ≤ a → int_lt (pos a) (pos b) ≡ false
lt_fails a b order = grind (arith, common_steps)

pub le_holds : (a b : ℕ) → a ≤ b → int_le (pos a) (pos b) ≡ true
le_holds a b order = grind (arith, common_steps)

pub le_fails : (a b : ℕ) → b < a → int_le (pos a) (pos b) ≡ false
le_fails a b less = grind (arith, common_steps)

next_power : (number fuel : ℕ) → number * 10 ^ suc fuel ≡ number * 10 * 10 ^ fuel
next_power number fuel =
    let power : 10 ^ suc fuel ≡ 10 * 10 ^ fuel = omega arith in
    let product : number * 10 ^ suc fuel ≡ number * (10 * 10 ^ fuel) = ap (λ (n : ℕ). number * n) power in
    omega (arith, product)

-- Some power of ten makes ten digits of a number.
pub record HasTenDigits (fuel number : ℕ) : Type 0 where
  pub missing : ℕ
  pub few : missing ≤ fuel
  pub at_least : 10 ^ 9 ≤ number * 10 ^ missing
  pub below : number * 10 ^ missing < 10 ^ 10

no_more : (fuel number : ℕ) → number < 10 ^ 10 → 10 ^ 9 ≤ number → HasTenDigits fuel number
no_more fuel number small enough = record {
  missing = 0;
  few = omega arith;
  at_least = omega (arith, enough);
  below = omega (arith, small);
}

one_more : (fuel number : ℕ) → HasTenDigits fuel (number * 10) → HasTenDigits (suc fuel) number
one_more fuel number more =
    let again = next_power number more.missing in
    record {
      missing = suc more.missing;
      few = omega (arith, more.few);
      at_least = omega (arith, again, more.at_least);
      below = omega (arith, again, more.below);
    }

filled : (fuel number : ℕ) → number < 10 ^ 10 → 10 ^ 9 ≤ number * 10 ^ fuel → HasTenDigits fuel number
filled zero number small enough = no_more 0 number small (omega (arith, enough))
filled (suc fuel) number small enough =
    ⊎_elim (λ (less : number < 10 ^ 9).
    one_more fuel number
    (filled fuel (number * 10) (omega (arith, less)) (let same = next_power number fuel in omega (arith, same, enough))))
    (λ (least : 10 ^ 9 ≤ number). no_more (suc fuel) number small least) (cases_lt number (10 ^ 9))

-- The decimal of up to ten digits times a power of ten.
pub ten_at : (number steps : ℕ) → number < 10 ^ 10 → 9 ≤ steps → steps ≤ 198 → (ten : Ten) × (units ten ≡ pos (number * 10 ^ steps))
ten_at zero steps small enough bounded = let nothing : 0 ≡ 0 * 10 ^ steps = omega arith in (Zero, ap pos nothing)
ten_at (suc n) steps small enough bounded =
    let digits = filled 9 (suc n) small (omega arith) in (
      Nonzero Plus record {
        mantissa = record { digits = suc n * 10 ^ digits.missing; at_least = digits.at_least; below = digits.below };
        exponent = record { biased = steps - digits.missing; in_range = omega (arith, bounded) };
      },
      ap pos (filled_worth (suc n) digits.missing steps (10 ^ digits.missing) refl (omega (arith, digits.few, enough))),
    )

-- The same with a sign.
pub signed_ten_at : (number : ℤ) (steps : ℕ) → unsigned_abs number < 10 ^ 10 → 9 ≤ steps → steps ≤ 198
    → (ten : Ten) × (units ten ≡ number *ℤ pos (10 ^ steps))
signed_ten_at (pos n) steps small enough bounded =
    let ten = ten_at n steps small enough bounded in (ten.0, ten.1 ∙ sym (pos-*ℤ-pos n (10 ^ steps)))
signed_ten_at (negsuc n) steps small enough bounded =
    let ten = ten_at (suc n) steps small enough bounded in
    let other = opposite ten.0 in (other.0, other.1 ∙ ap neg_ℤ ten.1 ∙ sym (negsuc-*ℤ-pos n (10 ^ steps)))

-- The decimal of a whole number.
pub whole_ten : (number : ℕ) → number < 10 ^ 10 → (ten : Ten) × (units ten ≡ whole number)
whole_ten number small = ten_at number 108 small (omega arith) (omega arith)

-- A remainder: of a number by zero it is the number itself.
pub record IsRemainder (a b quotient rest : ℕ) : Type 0 where
  pub parts : a ≡ quotient * b + rest
  pub least : (rest < b) ⊎ (b ≡ 0)

times_one : (a b quotient rest : ℕ) → a ≡ quotient * b + rest → a * one ≡ quotient * (b * one) + rest * one
times_one a b quotient rest parts =
    let product : a * one ≡ (quotient * b + rest) * one = ap (λ (n : ℕ). n * one) parts in
    omega (arith, product)

module _ (itself : DecimalIsItsNearest) (a b quotient rest : ℕ) (is : IsRemainder a b quotient rest) (A B R : Ten)
    (A_is : units A ≡ whole a) (B_is : units B ≡ whole b) (R_is : units R ≡ whole rest) where
  -- The result of MOD, if the divisor is not zero.
  pub modulo_some : rest < b → NearestModulo A B (Ok R)
  modulo_some less =
      let some : 0 < b * one = omega (arith, less) in
      let rounds : RoundsRest (whole a) (whole b) (Ok R) =
      rest_of_same Plus (a * one) (b * one) quotient (rest * one) (Ok R) (times_one a b quotient rest is.parts) (omega (arith, less))
      (subst (λ (n : ℤ). Nearest n 1 (Ok R)) R_is (itself R)) in
      let both : RoundsRest (units A) (units B) (Ok R) =
      subst (λ (n : ℤ). RoundsRest n (units B) (Ok R)) (sym A_is)
      (subst (λ (n : ℤ). RoundsRest (whole a) n (Ok R)) (sym B_is) rounds) in
      not_zero (Ok R ≡ Ok A) (RoundsRest (units A) (units B) (Ok R)) (unsigned_abs (units B))
      (subst (λ (n : ℤ). 0 < unsigned_abs n) (sym B_is) some) both

module _ (itself : DecimalIsItsNearest) (injective : UnitsAreInjective) (a b quotient rest : ℕ) (is : IsRemainder a b quotient rest)
    (A B R : Ten) (A_is : units A ≡ whole a) (B_is : units B ≡ whole b) (R_is : units R ≡ whole rest) where
  by_zero : b ≡ 0 → NearestModulo A B (Ok R)
  by_zero none =
      let same : rest ≡ a = (let product = ap (λ (n : ℕ). quotient * n) none in omega (arith, is.parts, product)) in
      let nought : units B ≡ pos 0 = B_is ∙ ap whole none in
      let given : Result Ten DecimalFault = Ok R in
      let own : Result Ten DecimalFault = Ok A in
      let same_answer : given ≡ own =
      ap (λ (ten : Ten). let answer : Result Ten DecimalFault = Ok ten in answer) (injective R A (R_is ∙ ap whole same ∙ sym A_is)) in
      subst (λ (n : ℤ). MatchBool (unsigned_abs n == 0) (given ≡ own) (RoundsRest (units A) n given)) (sym nought) same_answer

  -- The result of MOD.
  pub modulo_whole : NearestModulo A B (Ok R)
  modulo_whole =
      elim is.least [
        | inl less ↦ modulo_some itself a b quotient rest is A B R A_is B_is R_is less
        | inr none ↦ by_zero none
      ]

-- A register of zeros contains zero.
zeros_number : holding_of zeros ≡ Number (pos 0)
zeros_number = refl

pub zeros_register : IsRegister 14 zeros
zeros_register = record { size = refl; each = All-replicate (λ digit. digit < 16) 14 0 (omega arith) }

number_of_units : (a b : ℤ) → Number a ≡ Number b → a ≡ b
number_of_units a b same = cc

-- A register that contains a whole number is the register of zeros if the number is zero, and only then.
pub is_zeros : RegisterIsDetermined → (register : List ℕ) → IsRegisterOf (whole 0) register → bytes_eq register zeros ≡ true
is_zeros determined register is =
    (bytes_eq-Decides register zeros).1 (determined (whole 0) register zeros is.valid zeros_register is.holds zeros_number)

pub not_zeros : (number : ℕ) (register : List ℕ) → 0 < number → holding_of register ≡ Number (whole number)
    → bytes_eq register zeros ≡ false
not_zeros number register some holds =
    false_from_ne_true (bytes_eq register zeros) (λ yes.
    let same : register ≡ zeros = (bytes_eq-Decides register zeros).0 yes in
    let number_is : whole number ≡ pos 0 = number_of_units (whole number) (pos 0) (sym holds ∙ ap holding_of same ∙ zeros_number) in
    let size_is : number * one ≡ 0 = ap unsigned_abs number_is in
    omega (arith, size_is, some))

-- X#0? answers whether a whole number is zero.
pub tells_zero : RegisterIsDetermined → (register : List ℕ) → IsRegisterOf (whole 0) register → not (bytes_eq register zeros) ≡ false
tells_zero determined register is = ap not (is_zeros determined register is)

pub tells_some : (number : ℕ) (register : List ℕ) → 0 < number → holding_of register ≡ Number (whole number)
    → not (bytes_eq register zeros) ≡ true
tells_some number register some holds = ap not (not_zeros number register some holds)
