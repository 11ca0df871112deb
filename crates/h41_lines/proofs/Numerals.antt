-- Numbers of words, digit by digit.
use Rattle.std.proofs.Common.{inl, inr, ◌≡◌, ℕ, ◌<◌, ◌≤◌, ◌^◌, ◌&&◌, true, nat_le, nat_lt, List, [], ◌∷◌, length, take, Some, None, arith}
use Rattle.std.proofs.Common.{if◌then◌else◌, refl, sym, ◌∙◌}
use Rattle.std.specs.List.{list_all}
use Rattle.std.specs.Char.{is_digit}
use Rattle.std.specs.Str.Parse.{digits_value, AllDigits}
use Rattle.std.proofs.lemmas.Bool.{and_right, and_parts, cases_Bool, cond-true, cond-false, lt-leb, le-leb, ltb-true, leb-true}
use Rattle.std.proofs.lemmas.Int.Digits.{digits_value-lt}
use Rattle.std.proofs.Math.Nat.{pow-le-pow_right}
use Rattle.std.proofs.lemmas.Str.Parse.{digits_value-take-le}
use Rattle.h41_lines.specs.Numbers.{hexadecimal, is_numeral, is_hexadecimal}

-- If the first digits alone are above the greatest value, the whole number is.
pub number_too_large : {A : Type 0} (radix most n : ℕ) (word : List ℕ) (good bad : A) → 1 ≤ radix → most < digits_value radix (take n word)
    → bad ≡ (if is_numeral radix word && nat_le (digits_value radix word) most then good else bad)
number_too_large radix most n word good bad low over =
    sym (cond-false _ good bad (and_right (is_numeral radix word) _ (lt-leb _ most (omega (arith, digits_value-take-le radix word n low)))))

all_digits : (radix : ℕ) (word : List ℕ) → list_all (λ digit. is_digit digit radix) word ≡ true → AllDigits radix word
all_digits radix [] e = tt
all_digits radix (digit ∷ word) e =
    let both = and_parts (is_digit digit radix) (list_all (λ d. is_digit d radix) word) e in
    (ltb-true _ _ both.0, all_digits radix word both.1)

numeral-lt : (radix most : ℕ) (word : List ℕ) → 1 ≤ radix → length word ≤ most → is_numeral radix word ≡ true
    → digits_value radix word < radix ^ most
numeral-lt radix most word low short e =
    let digits : AllDigits radix word =
    all_digits radix word (and_parts (nat_lt 0 (length word)) (list_all (λ digit. is_digit digit radix) word) e).1 in
    let small : digits_value radix word < radix ^ length word = digits_value-lt radix word digits in
    let grows : radix ^ length word ≤ radix ^ most = pow-le-pow_right low short in
    omega arith

-- With at most four digits, no number is too large.
pub hexadecimal_is : {A : Type 0} (least most : ℕ) (word : List ℕ) (good bad : A) → most ≤ 4 → least ≤ length word → length word ≤ most
    → (if is_numeral 16 word && nat_le (digits_value 16 word) 65535 then good else bad)
    ≡ (if is_hexadecimal least most word then good else bad)
hexadecimal_is least most word good bad few long short = elim (cases_Bool (is_numeral 16 word)) [
  | inl digits ↦
      let small : digits_value 16 word ≤ 65535 = omega (arith, numeral-lt 16 4 word (omega arith) (omega arith) digits) in
      rw (digits, le-leb _ _ small, le-leb _ _ long, le-leb _ _ short) refl
  | inr other ↦ rw other refl
]

pub hexadecimal-lt : (least most n : ℕ) (word : List ℕ) → Some n ≡ hexadecimal least most word → n < 16 ^ most
hexadecimal-lt least most n word e = elim (cases_Bool (is_hexadecimal least most word)) [
  | inl good ↦
      let parts = and_parts (is_numeral 16 word) _ good in
      let short : length word ≤ most = leb-true _ _ (and_parts (nat_le least (length word)) _ parts.1).1 in
      let value : Some n ≡ Some (digits_value 16 word) = e ∙ cond-true _ _ _ good in
      let same : n ≡ digits_value 16 word = cc in
      omega (arith, numeral-lt 16 most word (omega arith) short parts.0)
  | inr other ↦ let value : Some n ≡ None = e ∙ cond-false _ _ _ other in cc
]
