-- A number has only one register.
use Rattle.std.proofs.Common.{◌≡◌, ℕ, zero, suc, ◌+◌, ◌-◌, ◌*◌, ◌^◌, ◌<◌, ◌≤◌, ◌⊎◌, ⊎_elim, inl, inr, sym, ◌∙◌, ap, refl, arith}
use Rattle.std.proofs.Common.{length, List, Option, Some, None, Bool, true, false}
use Rattle.std.specs.Prelude.{ℤ, pos, ◌==◌, if◌then◌else◌, nat_le, nat_lt, slice_index, ◌&&◌, unsigned_abs}
use Rattle.std.specs.Option.{option_map}
use Rattle.std.proofs.lemmas.Bool.{cases_lt}
use Rattle.std.proofs.lemmas.Bool.Decides.{nat_tests}
use Rattle.std.proofs.lemmas.List.{ext_get_or}
use Rattle.std.proofs.Math.Nat.{eq_of_mul-eq-mul_right, mul-pos, pow-suc}
use Rattle.h41_decimal.specs.Signs.{with_sign, sign_of}
use Rattle.h41_decimal.specs.Units.{size_of}
use Rattle.h41_decimal.specs.Holding.{Number, decimal_in, digits_worth, holding_of, number_in, parts_worth, sign_in, steps_in, worth}
use Rattle.h41_decimal.specs.Laws.{RegisterIsDetermined}
use Rattle.h41_decimal.specs.declared.sign.Sign.{Sign}
use Rattle.h41_decimal.specs.declared.sign.Sign.TheVariants.{Plus, Minus}
use Rattle.h41_decimal.proofs.Nearest.{ten_pow_pos}
use Rattle.h41_decimal.proofs.Registers.{worth-holding_of}
use Rattle.h41_decimal.proofs.Same.{one_exponent}
use Rattle.h41_decimal.proofs.Steps.{sign_of-signed}
use Rattle.h41_decimal.proofs.Tens.{unsigned_abs-signed}

-- The first digit of a number that is read, and the rest.
record IsSplit (digit n : ℕ) (others : Option ℕ) : Type 0 where
  pub rest : ℕ
  pub rest_is : others ≡ Some rest
  pub small : digit ≤ 9
  pub number_is : digit + 10 * rest ≡ n

split_of : (t : Bool) (digit n : ℕ) (others : Option ℕ) → nat_le digit 9 ≡ t
    → (if t then option_map (λ rest. digit + 10 * rest) others else None) ≡ Some n → IsSplit digit n others
split_of true digit n (Some rest) e h = record {
  rest = rest;
  rest_is = refl;
  small = grind (arith, nat_tests);
  number_is = cc;
}
split_of true digit n None e h = absurd cc
split_of false digit n others e h = absurd cc

split : (register : List ℕ) (place count n : ℕ) → decimal_in register place (suc count) ≡ Some n
    → IsSplit (slice_index register place) n (decimal_in register (place + 1) count)
split register place count n h =
    split_of (nat_le (slice_index register place) 9) (slice_index register place) n (decimal_in register (place + 1) count) refl h

-- A number of some digits is less than the power of ten.
pub below_power : (register : List ℕ) (place count n : ℕ) → decimal_in register place count ≡ Some n → n < 10 ^ count
below_power register place zero n h = let e : 0 ≡ n = cc in omega arith
below_power register place (suc count) n h =
    let s = split register place count n h in
    let rest_below : s.rest < 10 ^ count = below_power register (place + 1) count s.rest s.rest_is in
    let small = s.small in
    let e = s.number_is in
    let p : 10 ^ suc count ≡ 10 ^ count * 10 = pow-suc 10 count in
    omega arith

-- Two registers in which the same number is read have its digits.
same_digits : (x y : List ℕ) (place count n : ℕ) → decimal_in x place count ≡ Some n → decimal_in y place count ≡ Some n
    → (k : ℕ) → place ≤ k → k < place + count → slice_index x k ≡ slice_index y k
same_digits x y place zero n h i k low high = absurd (omega arith)
same_digits x y place (suc count) n h i k low high =
    let s = split x place count n h in
    let t = split y place count n i in
    let s_small = s.small in
    let t_small = t.small in
    let s_is = s.number_is in
    let t_is = t.number_is in
    let rest : t.rest ≡ s.rest = omega arith in
    let digit : slice_index x place ≡ slice_index y place = omega arith in
    ⊎_elim
    (λ (more : place < k).
    same_digits x y (place + 1) count s.rest s.rest_is (t.rest_is ∙ ap Some rest) k (omega arith) (omega arith))
    (λ (first : k ≤ place). let e : k ≡ place = omega arith in rw e digit)
    (cases_lt place k)

-- The parts of a number in a register. Zero is a register of zeros.
record IsHeldZero (m e s : ℕ) (z : ℤ) : Type 0 where
  pub mantissa_is : m ≡ 0
  pub exponent_is : e ≡ 0
  pub sign_is : s ≡ 0
  pub value_is : z ≡ pos 0

record IsHeldNonzero (m e s : ℕ) (z : ℤ) : Type 0 where
  pub sign : Sign
  pub steps : ℕ
  pub sign_is : sign_in s ≡ Some sign
  pub steps_is : steps_in e ≡ Some steps
  pub at_least : 10 ^ 9 ≤ m
  pub value_is : z ≡ with_sign sign (size_of m steps)

record IsHeld (mantissa exponent : Option ℕ) (s : ℕ) (z : ℤ) : Type 0 where
  pub m : ℕ
  pub e : ℕ
  pub mantissa_is : mantissa ≡ Some m
  pub exponent_is : exponent ≡ Some e
  pub either : IsHeldZero m e s z ⊎ IsHeldNonzero m e s z

worth_of : (t : Bool) (m e s : ℕ) (sign : Sign) (steps : ℕ) (z : ℤ) → nat_lt m (10 ^ 9) ≡ t → sign_in s ≡ Some sign
    → steps_in e ≡ Some steps → (if t then None else Some (with_sign sign (size_of m steps))) ≡ Some z → IsHeldNonzero m e s z
worth_of true m e s sign steps z less sign_is steps_is h = absurd cc
worth_of false m e s sign steps z less sign_is steps_is h = record {
  sign = sign;
  steps = steps;
  sign_is = sign_is;
  steps_is = steps_is;
  at_least = grind (arith, nat_tests);
  value_is = cc;
}

nonzero_of : (m e s : ℕ) (sign : Option Sign) (steps : Option ℕ) (z : ℤ) → sign_in s ≡ sign → steps_in e ≡ steps
    → digits_worth m sign steps ≡ Some z → IsHeldNonzero m e s z
nonzero_of m e s (Some sign) (Some steps) z sign_is steps_is h = worth_of (nat_lt m (10 ^ 9)) m e s sign steps z refl sign_is steps_is h
nonzero_of m e s sign steps z sign_is steps_is h = absurd cc

either_of : (t u v : Bool) (m e s : ℕ) (z : ℤ) → (m == 0) ≡ t → (e == 0) ≡ u → (s == 0) ≡ v
    → (if t && u && v then Some (pos 0) else digits_worth m (sign_in s) (steps_in e)) ≡ Some z → IsHeldZero m e s z ⊎ IsHeldNonzero m e s z
either_of true true true m e s z a b c h = inl (record {
  mantissa_is = grind (arith, nat_tests);
  exponent_is = grind (arith, nat_tests);
  sign_is = grind (arith, nat_tests);
  value_is = cc;
})
either_of true true false m e s z a b c h = inr (nonzero_of m e s (sign_in s) (steps_in e) z refl refl h)
either_of true false v m e s z a b c h = inr (nonzero_of m e s (sign_in s) (steps_in e) z refl refl h)
either_of false u v m e s z a b c h = inr (nonzero_of m e s (sign_in s) (steps_in e) z refl refl h)

held_of : (mantissa exponent : Option ℕ) (s : ℕ) (z : ℤ) → parts_worth mantissa exponent s ≡ Some z → IsHeld mantissa exponent s z
held_of (Some m) (Some e) s z h = record {
  m = m;
  e = e;
  mantissa_is = refl;
  exponent_is = refl;
  either = either_of (m == 0) (e == 0) (s == 0) m e s z refl refl refl h;
}
held_of mantissa exponent s z h = absurd cc

-- The digit of a sign is determined.
plus_digit : (t u : Bool) (s : ℕ) → (s == 0) ≡ t → (if t then Some Plus else if u then Some Minus else None) ≡ Some Plus → s ≡ 0
plus_digit true u s e h = grind (arith, nat_tests)
plus_digit false true s e h = absurd cc
plus_digit false false s e h = absurd cc

minus_digit : (t u : Bool) (s : ℕ) → (s == 9) ≡ u → (if t then Some Plus else if u then Some Minus else None) ≡ Some Minus → s ≡ 9
minus_digit true u s e h = absurd cc
minus_digit false true s e h = grind (arith, nat_tests)
minus_digit false false s e h = absurd cc

same_sign : (sign : Sign) (s r : ℕ) → sign_in s ≡ Some sign → sign_in r ≡ Some sign → s ≡ r
same_sign Plus s r h k = plus_digit (s == 0) (s == 9) s refl h ∙ sym (plus_digit (r == 0) (r == 9) r refl k)
same_sign Minus s r h k = minus_digit (s == 0) (s == 9) s refl h ∙ sym (minus_digit (r == 0) (r == 9) r refl k)

-- The digits of an exponent are determined.
exponent_of : (t u : Bool) (e steps : ℕ) → nat_le e 99 ≡ t → nat_le 901 e ≡ u
    → (if t then Some (e + 99) else if u then Some (e - 901) else None) ≡ Some steps
    → ((e ≤ 99) × (e + 99 ≡ steps)) ⊎ ((901 ≤ e) × (steps + 901 ≡ e))
exponent_of true u e steps a b h =
    let least : e ≤ 99 = grind (arith, nat_tests) in
    let is : e + 99 ≡ steps = cc in
    inl (least, is)
exponent_of false true e steps a b h =
    let least : 901 ≤ e = grind (arith, nat_tests) in
    let is : e - 901 ≡ steps = cc in
    inr (least, omega arith)
exponent_of false false e steps a b h = absurd cc

same_exponent : (e f steps : ℕ) → e < 10 ^ 3 → f < 10 ^ 3 → steps_in e ≡ Some steps → steps_in f ≡ Some steps → e ≡ f
same_exponent e f steps e_below f_below h k =
    let first = exponent_of (nat_le e 99) (nat_le 901 e) e steps refl refl h in
    let second = exponent_of (nat_le f 99) (nat_le 901 f) f steps refl refl k in
    elim first [
      | inl x ↦ elim second [ inl y ↦ omega (arith, x, y) | inr y ↦ omega (arith, x, y) ]
      | inr x ↦ elim second [ inl y ↦ omega (arith, x, y) | inr y ↦ omega (arith, x, y) ]
    ]

-- The parts of a number are determined.
record AreSame (m e s n f r : ℕ) : Type 0 where
  pub mantissa : m ≡ n
  pub exponent : e ≡ f
  pub sign : s ≡ r

held_pos : (m steps : ℕ) → 10 ^ 9 ≤ m → 0 < m * 10 ^ steps
held_pos m steps least = let some : 0 < m = omega arith in mul-pos some (ten_pow_pos steps)

not_held_zero : (m e s : ℕ) (z : ℤ) → z ≡ pos 0 → IsHeldNonzero m e s z → ⊥
not_held_zero m e s z none h =
    let a : 0 ≡ m * 10 ^ h.steps = ap unsigned_abs (sym none ∙ h.value_is) ∙ unsigned_abs-signed h.sign (m * 10 ^ h.steps) in
    let b : 0 < m * 10 ^ h.steps = held_pos m h.steps h.at_least in
    omega arith

same_nonzero : (m e s n f r : ℕ) (z : ℤ) → m < 10 ^ 10 → n < 10 ^ 10 → e < 10 ^ 3 → f < 10 ^ 3 → IsHeldNonzero m e s z
    → IsHeldNonzero n f r z → AreSame m e s n f r
same_nonzero m e s n f r z m_below n_below e_below f_below h k =
    let x = m * 10 ^ h.steps in
    let y = n * 10 ^ k.steps in
    let values : with_sign h.sign x ≡ with_sign k.sign y = sym h.value_is ∙ k.value_is in
    let sizes : x ≡ y = sym (unsigned_abs-signed h.sign x) ∙ (ap unsigned_abs values ∙ unsigned_abs-signed k.sign y) in
    let x_pos : 0 < x = held_pos m h.steps h.at_least in
    let y_pos : 0 < y = held_pos n k.steps k.at_least in
    let signs : h.sign ≡ k.sign = sym (sign_of-signed h.sign x x_pos) ∙ (ap sign_of values ∙ sign_of-signed k.sign y y_pos) in
    let steps : h.steps ≡ k.steps = one_exponent m n h.steps k.steps h.at_least m_below k.at_least n_below sizes in
    let at_one : m * 10 ^ h.steps ≡ n * 10 ^ h.steps = sizes ∙ ap (λ t. n * 10 ^ t) (sym steps) in
    record {
      mantissa = eq_of_mul-eq-mul_right (10 ^ h.steps) (ten_pow_pos h.steps) m n at_one;
      exponent = same_exponent e f h.steps e_below f_below h.steps_is (k.steps_is ∙ ap Some (sym steps));
      sign = same_sign h.sign s r h.sign_is (k.sign_is ∙ ap Some (sym signs));
    }

same_parts : (m e s n f r : ℕ) (z : ℤ) → m < 10 ^ 10 → n < 10 ^ 10 → e < 10 ^ 3 → f < 10 ^ 3
    → IsHeldZero m e s z ⊎ IsHeldNonzero m e s z → IsHeldZero n f r z ⊎ IsHeldNonzero n f r z → AreSame m e s n f r
same_parts m e s n f r z m_below n_below e_below f_below (inl h) (inl k) = record {
  mantissa = h.mantissa_is ∙ sym k.mantissa_is;
  exponent = h.exponent_is ∙ sym k.exponent_is;
  sign = h.sign_is ∙ sym k.sign_is;
}
same_parts m e s n f r z m_below n_below e_below f_below (inl h) (inr k) = absurd (not_held_zero n f r z h.value_is k)
same_parts m e s n f r z m_below n_below e_below f_below (inr h) (inl k) = absurd (not_held_zero m e s z k.value_is h)
same_parts m e s n f r z m_below n_below e_below f_below (inr h) (inr k) = same_nonzero m e s n f r z m_below n_below e_below f_below h k

held : (register : List ℕ) (z : ℤ) → holding_of register ≡ Number z
    → IsHeld (decimal_in register 3 10) (decimal_in register 0 3) (slice_index register 13) z
held register z h =
    let n : number_in register ≡ Some z = sym (worth-holding_of register) ∙ ap worth h in
    held_of (decimal_in register 3 10) (decimal_in register 0 3) (slice_index register 13) z n

-- Each digit of the register is determined.
same_at : (a b : List ℕ) (z : ℤ) → holding_of a ≡ Number z → holding_of b ≡ Number z → (k : ℕ) → k < 14 → slice_index a k ≡ slice_index b k
same_at a b z a_holds b_holds k less =
    let h = held a z a_holds in
    let i = held b z b_holds in
    let same =
    same_parts h.m h.e (slice_index a 13) i.m i.e (slice_index b 13) z
    (below_power a 3 10 h.m h.mantissa_is) (below_power b 3 10 i.m i.mantissa_is)
    (below_power a 0 3 h.e h.exponent_is) (below_power b 0 3 i.e i.exponent_is) h.either i.either in
    ⊎_elim
    (λ (exponent : k < 3).
    same_digits a b 0 3 h.e h.exponent_is (i.exponent_is ∙ ap Some (sym same.exponent)) k (omega arith) (omega arith))
    (λ (above : 3 ≤ k).
    ⊎_elim
    (λ (mantissa : k < 13).
    same_digits a b 3 10 h.m h.mantissa_is (i.mantissa_is ∙ ap Some (sym same.mantissa)) k above (omega arith))
    (λ (last : 13 ≤ k). let e : k ≡ 13 = omega arith in rw e same.sign)
    (cases_lt k 13))
    (cases_lt k 3)

pub register_determined : RegisterIsDetermined
register_determined number a b a_is b_is a_holds b_holds =
    let a_size : length a ≡ 14 = a_is.size in
    ext_get_or 0 a b (a_is.size ∙ sym b_is.size) (λ k less. same_at a b number a_holds b_holds k (omega arith))
