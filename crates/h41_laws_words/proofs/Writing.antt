-- A decimal is written to a register, and the value of a register that contains a number is a
-- decimal.
use Rattle.std.proofs.Common.{◌≡◌, ℕ, zero, suc, ◌+◌, ◌-◌, ◌*◌, ◌/◌, ◌%◌, ◌^◌, ◌<◌, ◌≤◌, inl, inr, sym, ◌∙◌, ap, refl, subst, arith}
use Rattle.std.proofs.Common.{List, map, Option, Some, None, Bool, true, false}
use Rattle.std.specs.Prelude.{ℤ, pos, ◌==◌, if◌then◌else◌, nat_le, nat_lt, slice_index, slice_index_or, ◌&&◌}
use Rattle.std.specs.Option.{option_map}
use Rattle.std.specs.List.{range_with_len}
use Rattle.std.proofs.Math.Nat.{div-div-eq-div-mul, pow-suc}
use Rattle.std.proofs.lemmas.Nat.{pow-add, div_below}
use Rattle.std.proofs.lemmas.Bool.{cases_lt, cond_both}
use Rattle.std.proofs.lemmas.Bool.Decides.{nat_tests}
use Rattle.std.proofs.lemmas.List.FromFn.{get_or-map-range_with_len}
use Rattle.h41_digits.specs.Register.{IsRegister}
use Rattle.h41_decimal.specs.Signs.{with_sign}
use Rattle.h41_decimal.specs.Units.{size_of, units}
use Rattle.h41_decimal.specs.Holding.{decimal_in, digits_worth, number_in, parts_worth, sign_in, steps_in}
use Rattle.h41_decimal.specs.declared.sign.Sign.{Sign}
use Rattle.h41_decimal.specs.declared.sign.Sign.TheVariants.{Plus, Minus}
use Rattle.h41_decimal.specs.declared.ten.Ten.{Ten}
use Rattle.h41_decimal.specs.declared.ten.Ten.TheVariants.{Zero, Nonzero}
use Rattle.h41_decimal.proofs.Held.{below_power}
use Rattle.h41_decimal.proofs.Registers.{parts_hold}
use Rattle.h41_laws_words.specs.DecimalAnswers.{HoldsNumber}
use Rattle.h41_laws_words.proofs.Answering.{Has}
use Rattle.h41_laws_words.proofs.Registers.{placed}
use Rattle.h41_laws_words.proofs.Rounding.{ten_of, units-ten_of}

-- The digit at a place, from the mantissa, the exponent and the sign.
abbrev digit_at : ℕ → ℕ → ℕ → ℕ → ℕ
digit_at mantissa exponent sign place =
    if nat_lt place 3 then exponent / 10 ^ place % 10 else if nat_lt place 13 then mantissa / 10 ^ (place - 3) % 10 else sign

written : ℕ → ℕ → ℕ → List ℕ
written mantissa exponent sign = map (digit_at mantissa exponent sign) (range_with_len 0 14)

written_at : (mantissa exponent sign place d : ℕ) → place < 14
    → slice_index_or (written mantissa exponent sign) place d ≡ digit_at mantissa exponent sign place
unfolding written
written_at mantissa exponent sign place d inside =
    get_or-map-range_with_len (digit_at mantissa exponent sign) 0 14 place place d inside (omega arith)

digit_small : (mantissa exponent sign place : ℕ) → sign < 16 → digit_at mantissa exponent sign place < 16
digit_small mantissa exponent sign place small =
    cond_both (nat_lt place 3) _ _ (λ n. n < 16) (λ _. omega arith)
    (λ _. cond_both (nat_lt place 13) _ _ (λ n. n < 16) (λ _. omega arith) (λ _. small))

written_register : (mantissa exponent sign : ℕ) → sign < 16 → IsRegister 14 (written mantissa exponent sign)
unfolding written
written_register mantissa exponent sign small =
    placed (digit_at mantissa exponent sign) (λ place. digit_small mantissa exponent sign place small)

-- The digits of a number are read as the number.
put : (digit n rest : ℕ) (others : Option ℕ) → digit ≤ 9 → others ≡ Some rest → digit + 10 * rest ≡ n
    → (if nat_le digit 9 then option_map (λ rest. digit + 10 * rest) others else None) ≡ Some n
put digit n rest others small is sum =
    let t : nat_le digit 9 ≡ true = grind (arith, nat_tests) in
    rw (t, is) (ap Some sum)

next_digit : (number k : ℕ) → number / 10 ^ (k + 1) ≡ number / 10 / 10 ^ k
next_digit number k =
    let power : 10 ^ (k + 1) ≡ 10 * 10 ^ k = omega (arith, pow-add 10 k 1) in
    ap (λ p. number / p) power ∙ sym (div-div-eq-div-mul number 10 (10 ^ k))

reads : (register : List ℕ) (place count number : ℕ) → number < 10 ^ count
    → ((k : ℕ) → k < count → slice_index register (place + k) ≡ number / 10 ^ k % 10) → decimal_in register place count ≡ Some number
reads register place zero number less same = ap Some (omega arith)
reads register place (suc count) number less same =
    let at : place + 0 ≡ place = omega arith in
    let first : slice_index register place ≡ number / 10 ^ 0 % 10 =
    subst (λ (n : ℕ). slice_index register n ≡ number / 10 ^ 0 % 10) at (same 0 (omega arith)) in
    let power : 10 ^ suc count ≡ 10 ^ count * 10 = pow-suc 10 count in
    let ten : 0 < 10 = omega arith in
    let small : number / 10 < 10 ^ count = div_below number 10 (10 ^ count) ten (omega arith) in
    let others =
    reads register (place + 1) count (number / 10) small
    (λ k few.
    let next : place + (k + 1) ≡ place + 1 + k = omega arith in
    subst (λ (n : ℕ). slice_index register n ≡ number / 10 / 10 ^ k % 10) next
    (same (k + 1) (omega arith) ∙ ap (λ n. n % 10) (next_digit number k))) in
    put (slice_index register place) number (number / 10) (decimal_in register (place + 1) count) (omega arith) others (omega arith)

low_place : (mantissa exponent sign k : ℕ) → k < 3 → slice_index (written mantissa exponent sign) (0 + k) ≡ exponent / 10 ^ k % 10
low_place mantissa exponent sign k low =
    let at : 0 + k ≡ k = omega arith in
    let t : nat_lt k 3 ≡ true = grind (arith, nat_tests) in
    rw at (written_at mantissa exponent sign k 0 (omega arith) ∙ rw t refl)

high_place : (mantissa exponent sign k : ℕ) → k < 10 → slice_index (written mantissa exponent sign) (3 + k) ≡ mantissa / 10 ^ k % 10
high_place mantissa exponent sign k low =
    let s : nat_lt (3 + k) 3 ≡ false = grind (arith, nat_tests) in
    let t : nat_lt (3 + k) 13 ≡ true = grind (arith, nat_tests) in
    let at : 3 + k - 3 ≡ k = omega arith in
    written_at mantissa exponent sign (3 + k) 0 (omega arith) ∙ rw (s, t, at) refl

-- The exponent and the sign as digits.
record HasExponent (steps : ℕ) : Type 0 where
  exponent : ℕ
  small : exponent < 1000
  is : steps_in exponent ≡ Some steps

has_exponent : (steps : ℕ) → steps ≤ 198 → HasExponent steps
has_exponent steps inside = elim (cases_lt steps 99) [
  | inl low ↦
      let s : nat_le (steps + 901) 99 ≡ false = grind (arith, nat_tests) in
      let t : nat_le 901 (steps + 901) ≡ true = grind (arith, nat_tests) in
      let at : steps + 901 - 901 ≡ steps = omega arith in
      record { exponent = steps + 901; small = omega arith; is = rw (s, t) (ap Some at) }
  | inr high ↦
      let s : nat_le (steps - 99) 99 ≡ true = grind (arith, nat_tests) in
      let at : steps - 99 + 99 ≡ steps = omega arith in
      record { exponent = steps - 99; small = omega arith; is = rw s (ap Some at) }
]

record HasSign (sign : Sign) : Type 0 where
  digit : ℕ
  small : digit < 16
  is : sign_in digit ≡ Some sign

has_sign : (sign : Sign) → HasSign sign
has_sign Plus = record { digit = 0; small = omega arith; is = refl }
has_sign Minus = record { digit = 9; small = omega arith; is = refl }

pub in_register : (number : Ten) → Has (HoldsNumber (units number))
unfolding written
in_register Zero = record { answer = written 0 0 0; right = record { valid = written_register 0 0 0 (omega arith); holds = refl } }
in_register (Nonzero sign x) = nonzero sign x.mantissa.digits x.exponent.biased x.mantissa.at_least x.mantissa.below x.exponent.in_range
  where
    nonzero : (sign : Sign) (m steps : ℕ) → 10 ^ 9 ≤ m → m < 10 ^ 10 → steps ≤ 198 → Has (HoldsNumber (with_sign sign (size_of m steps)))
    nonzero sign m steps least below inside =
        let e = has_exponent steps inside in
        let s = has_sign sign in
        let register = written m e.exponent s.digit in
        record {
          answer = register;
          right = record {
            valid = written_register m e.exponent s.digit s.small;
            holds =
                parts_hold register m e.exponent s.digit sign steps
                (reads register 3 10 m below (λ k low. high_place m e.exponent s.digit k low))
                (reads register 0 3 e.exponent e.small (λ k low. low_place m e.exponent s.digit k low))
                (written_at m e.exponent s.digit 13 0 (omega arith)) s.is e.is least;
          };
        }

-- The value that is read is that of a decimal.
steps_small : (exponent steps : ℕ) → exponent < 1000 → steps_in exponent ≡ Some steps → steps ≤ 198
steps_small exponent steps small is = within (nat_le exponent 99) (nat_le 901 exponent) refl is
  where
    within : (s t : Bool) → nat_le exponent 99 ≡ s
        → (if s then Some (exponent + 99) else if t then Some (exponent - 901) else None) ≡ Some steps → steps ≤ 198
    within true t e h = let same : exponent + 99 ≡ steps = cc in let low : exponent ≤ 99 = grind (arith, nat_tests) in omega arith
    within false true e h = let same : exponent - 901 ≡ steps = cc in omega arith
    within false false e h = absurd cc

pub digits_decimal : (m : ℕ) (sign : Option Sign) (steps : Option ℕ) (number : ℤ) → m < 10 ^ 10 → ((k : ℕ) → steps ≡ Some k → k ≤ 198)
    → digits_worth m sign steps ≡ Some number → Has (λ (decimal : Ten). units decimal ≡ number)
digits_decimal m None steps number below inside is = absurd cc
digits_decimal m (Some sign) None number below inside is = absurd cc
digits_decimal m (Some sign) (Some steps) number below inside is = chosen (nat_lt m (10 ^ 9)) refl is
  where
    chosen : (t : Bool) → nat_lt m (10 ^ 9) ≡ t → (if t then None else Some (with_sign sign (size_of m steps))) ≡ Some number
        → Has (λ (decimal : Ten). units decimal ≡ number)
    chosen true e h = absurd cc
    chosen false e h =
        let least : 10 ^ 9 ≤ m = grind (arith, nat_tests) in
        let same : with_sign sign (size_of m steps) ≡ number = cc in
        record {
          answer = ten_of sign m steps record { at_least = least; below = below } (inside steps refl);
          right = units-ten_of sign m steps record { at_least = least; below = below } (inside steps refl) ∙ same;
        }

parts_decimal : (mantissa exponent : Option ℕ) (sign : ℕ) (number : ℤ) → ((m : ℕ) → mantissa ≡ Some m → m < 10 ^ 10)
    → ((e : ℕ) → exponent ≡ Some e → e < 1000) → parts_worth mantissa exponent sign ≡ Some number
    → Has (λ (decimal : Ten). units decimal ≡ number)
parts_decimal None exponent sign number m_below e_below is = absurd cc
parts_decimal (Some m) None sign number m_below e_below is = absurd cc
parts_decimal (Some m) (Some e) sign number m_below e_below is = chosen (m == 0 && e == 0 && sign == 0) is
  where
    chosen : (t : Bool) → (if t then Some (pos 0) else digits_worth m (sign_in sign) (steps_in e)) ≡ Some number
        → Has (λ (decimal : Ten). units decimal ≡ number)
    chosen true h = let same : pos 0 ≡ number = cc in record { answer = Zero; right = same }
    chosen false h =
        digits_decimal m (sign_in sign) (steps_in e) number (m_below m refl) (λ k k_is. steps_small e k (e_below e refl) k_is) h

pub from_register : (register : List ℕ) (number : ℤ) → number_in register ≡ Some number → Has (λ (decimal : Ten). units decimal ≡ number)
from_register register number is =
    parts_decimal (decimal_in register 3 10) (decimal_in register 0 3) (slice_index register 13) number
    (λ m m_is. below_power register 3 10 m m_is) (λ e e_is. below_power register 0 3 e e_is) is
