-- The number of a text of digits and radix marks, by its codes.
use Rattle.std.proofs.Common.{◌≡◌, ℕ, zero, suc, ◌+◌, ◌-◌, ◌<◌, ◌≤◌, Bool, true, false, List, [], ◌∷◌, length, take, map, not, cond, ◌++◌}
use Rattle.std.proofs.Common.{◌||◌, IsTrue, Option, Some, subst, if◌then◌else◌, refl, sym, ◌∙◌, ap, arith}
use Rattle.std.specs.Prelude.{nat_lt}
use Rattle.std.specs.Option.{option_map_or}
use Rattle.std.specs.List.{list_all, list_any, take_while}
use Rattle.std.proofs.lemmas.Bool.Decides.{nat_tests}
use Rattle.std.proofs.lemmas.List.Sums.{take_while-cons}
use Rattle.h41_codes.specs.Codes.{character_code}
use Rattle.h41_codes.specs.Heads.{IsIn}
use Rattle.h41_decimal.specs.NumberEntry.{IsTyped}
use Rattle.h41_codes.specs.NumberCharacters.{is_point}
use Rattle.h41_codes.specs.declared.characters.Character.{Character}
use Rattle.h41_codes.specs.declared.characters.Character.TheVariants as characters
use Rattle.h41_decimal.specs.declared.sign.Sign.TheVariants.{Plus}
use Rattle.h41_decimal.specs.declared.ten.Ten.{Ten}
use Rattle.h41_numbers.specs.NumberLaws.{PlainTextsAreTyped, digits_behind_mark, is_plain}
use Rattle.h41_numbers.specs.NumberLines.{IsNumberOf, digit_of, digits_in, number_from, whole_digits}
use Rattle.h41_plain_numbers.specs.declared.plain.PlainDigits.{PlainDigits}
use Rattle.h41_plain_numbers.specs.private.PlainReading.{IsTypedPlain, no_digits, with_code, with_codes, with_digit}

-- What is true of digits and radix marks is true of their codes.
pub plain_code : (character : Character)
    → (IsTrue (is_plain character) → IsIn 0x10 0x1B (character_code character))
    × (character_code character < 0x1B → IsTrue (is_plain character))
plain_code characters.Exponent = (λ is. cc, λ low. absurd (omega arith))
plain_code characters.Minus = (λ is. cc, λ low. absurd (omega arith))
plain_code character = (λ is. (omega arith, omega arith), λ low. refl)

-- The digits after one more code.
pub codes_more : (digits : PlainDigits) (codes : List ℕ) (code : ℕ)
    → with_codes digits (codes ++ code ∷ []) ≡ with_code (with_codes digits codes) code
codes_more digits [] code = refl
codes_more digits (first ∷ codes) code = codes_more (with_code digits first) codes code

-- With more codes there are no fewer digits, and not more of them are after the radix mark than there are.
more_places : (marked : Bool) (places count : ℕ) → places ≤ count → (if marked then places + 1 else places) ≤ count + 1
more_places true places count few = omega arith
more_places false places count few = omega arith

abbrev with_low : Bool → PlainDigits → ℕ → PlainDigits
with_low low digits code = if low then with_digit digits (code - 0x10) else record digits { marked = true }

count_grows : (low : Bool) (digits : PlainDigits) (code : ℕ) → digits.count ≤ (with_low low digits code).count
count_grows true digits code = omega arith
count_grows false digits code = omega arith

places_kept : (low : Bool) (digits : PlainDigits) (code : ℕ) → digits.places ≤ digits.count
    → (with_low low digits code).places ≤ (with_low low digits code).count
places_kept true digits code few = more_places digits.marked digits.places digits.count few
places_kept false digits code few = few

pub digit_more : (digits : PlainDigits) (code : ℕ) → code < 0x1A → (with_code digits code).count ≡ digits.count + 1
digit_more digits code low =
    let test : nat_lt code 0x1A ≡ true = grind (arith, nat_tests) in
    rw test refl

count_least : (digits : PlainDigits) (codes : List ℕ) → digits.count ≤ (with_codes digits codes).count
count_least digits [] = omega arith
count_least digits (code ∷ codes) = omega (arith, count_grows (nat_lt code 0x1A) digits code, count_least (with_code digits code) codes)

pub count_taken : (digits : PlainDigits) (n : ℕ) (codes : List ℕ)
    → (with_codes digits (take n codes)).count ≤ (with_codes digits codes).count
count_taken digits zero codes = count_least digits codes
count_taken digits (suc n) [] = omega arith
count_taken digits (suc n) (code ∷ codes) = count_taken (with_code digits code) n codes

pub places_most : (digits : PlainDigits) (codes : List ℕ) → digits.places ≤ digits.count
    → (with_codes digits codes).places ≤ (with_codes digits codes).count
places_most digits [] few = few
places_most digits (code ∷ codes) few = places_most (with_code digits code) codes (places_kept (nat_lt code 0x1A) digits code few)

-- How many digits of a text are after a radix mark: all if one was before the text, otherwise those after the first one in it.
abbrev behind_mark : (marked any : Bool) (size whole : ℕ) → ℕ
behind_mark true any size whole = size
behind_mark false true size whole = size - whole
behind_mark false false size whole = 0

abbrev after : Bool → List Character → ℕ
after marked text = behind_mark marked (list_any is_point text) (length (digits_in text)) (whole_digits text)

digit_after : (marked any : Bool) (places size whole : ℕ)
    → (if marked then places + 1 else places) + behind_mark marked any size whole ≡ places + behind_mark marked any (suc size) (suc whole)
digit_after true any places size whole = omega arith
digit_after false true places size whole = omega arith
digit_after false false places size whole = refl

mark_after : (marked : Bool) (places size : ℕ) → places + size ≡ places + behind_mark marked true size 0
mark_after true places size = refl
mark_after false places size = omega arith

-- The digits before the first radix mark.
whole_more : (character : Character) (text : List Character)
    → whole_digits (character ∷ text)
    ≡ length (digits_in (cond (not (is_point character)) (character ∷ take_while (λ other. not (is_point other)) text) []))
whole_more character text =
    ap (λ (front : List Character). length (digits_in front)) (take_while-cons (λ other. not (is_point other)) character text)

none_after : (marked : Bool) (places : ℕ) → places ≡ places + behind_mark marked false 0 0
none_after true places = omega arith
none_after false places = omega arith

-- The digits of a text whose first character has one.
digits_behind : (character : Character) (digit : ℕ) (text : List Character) → digit_of character ≡ Some digit
    → digits_in (character ∷ text) ≡ digit ∷ digits_in text
digits_behind character digit text own =
    ap (λ (found : Option ℕ). option_map_or (λ first. first ∷ digits_in text) found (digits_in text)) own

-- The result of reading the characters of a text after other digits.
pub record AreRead (text : List Character) (digits : PlainDigits) : Type 0 where
  pub number : (with_codes digits (map character_code text)).number ≡ number_from digits.number (digits_in text)
  pub count : (with_codes digits (map character_code text)).count ≡ digits.count + length (digits_in text)
  pub places : (with_codes digits (map character_code text)).places ≡ digits.places + after digits.marked text

-- The character is this digit, and its code is read as this digit.
pub record IsDigit (character : Character) (digit : ℕ) (digits : PlainDigits) : Type 0 where
  pub own : digit_of character ≡ Some digit
  pub no_point : is_point character ≡ false
  pub reads : with_code digits (character_code character) ≡ with_digit digits digit

-- A digit before a text.
module _ (character : Character) (digit : ℕ) (text : List Character) (digits : PlainDigits) (is : IsDigit character digit digits)
    (rest : AreRead text (with_code digits (character_code character))) where
  more : digits_in (character ∷ text) ≡ digit ∷ digits_in text
  more = digits_behind character digit text is.own

  whole : whole_digits (character ∷ text) ≡ suc (whole_digits text)
  whole =
      let front = take_while (λ (other : Character). not (is_point other)) text in
      whole_more character text
      ∙ ap (λ (point : Bool). length (digits_in (cond (not point) (character ∷ front) []))) is.no_point
      ∙ ap length (digits_behind character digit front is.own)

  pub digit_read : AreRead (character ∷ text) digits
  digit_read = record {
    number =
        rest.number ∙ ap (λ (d : PlainDigits). number_from d.number (digits_in text)) is.reads
        ∙ sym (ap (number_from digits.number) more);
    count = omega (arith, rest.count, ap (λ (d : PlainDigits). d.count) is.reads, ap length more);
    places =
        rest.places ∙ ap (λ (d : PlainDigits). d.places + after d.marked text) is.reads
        ∙ digit_after digits.marked (list_any is_point text) digits.places (length (digits_in text)) (whole_digits text)
        ∙ sym (λ i. digits.places + behind_mark digits.marked (is.no_point i || list_any is_point text) (length (more i)) (whole i));
  }

pub text_read : (text : List Character) (digits : PlainDigits) → IsTrue (list_all is_plain text) → AreRead text digits
text_read [] digits plain = record {
  number = refl;
  count = omega arith;
  places = none_after digits.marked digits.places;
}
text_read (characters.Point ∷ text) digits plain =
    let rest = text_read text (with_code digits 0x1A) plain in record {
      number = rest.number;
      count = rest.count;
      places =
          let whole : whole_digits (characters.Point ∷ text) ≡ 0 = whole_more characters.Point text in
          rest.places ∙ mark_after digits.marked digits.places (length (digits_in text))
          ∙ sym (ap (λ (n : ℕ). digits.places + behind_mark digits.marked true (length (digits_in text)) n) whole);
    }
text_read (characters.Exponent ∷ text) digits plain = absurd (cc plain)
text_read (characters.Minus ∷ text) digits plain = absurd (cc plain)
text_read (characters.Zero ∷ text) digits plain =
    digit_read characters.Zero 0 text digits (record { own = refl; no_point = refl; reads = refl }) (text_read text _ plain)
text_read (characters.One ∷ text) digits plain =
    digit_read characters.One 1 text digits (record { own = refl; no_point = refl; reads = refl }) (text_read text _ plain)
text_read (characters.Two ∷ text) digits plain =
    digit_read characters.Two 2 text digits (record { own = refl; no_point = refl; reads = refl }) (text_read text _ plain)
text_read (characters.Three ∷ text) digits plain =
    digit_read characters.Three 3 text digits (record { own = refl; no_point = refl; reads = refl }) (text_read text _ plain)
text_read (characters.Four ∷ text) digits plain =
    digit_read characters.Four 4 text digits (record { own = refl; no_point = refl; reads = refl }) (text_read text _ plain)
text_read (characters.Five ∷ text) digits plain =
    digit_read characters.Five 5 text digits (record { own = refl; no_point = refl; reads = refl }) (text_read text _ plain)
text_read (characters.Six ∷ text) digits plain =
    digit_read characters.Six 6 text digits (record { own = refl; no_point = refl; reads = refl }) (text_read text _ plain)
text_read (characters.Seven ∷ text) digits plain =
    digit_read characters.Seven 7 text digits (record { own = refl; no_point = refl; reads = refl }) (text_read text _ plain)
text_read (characters.Eight ∷ text) digits plain =
    digit_read characters.Eight 8 text digits (record { own = refl; no_point = refl; reads = refl }) (text_read text _ plain)
text_read (characters.Nine ∷ text) digits plain =
    digit_read characters.Nine 9 text digits (record { own = refl; no_point = refl; reads = refl }) (text_read text _ plain)

after_is : (any : Bool) (size whole count : ℕ) → count ≡ size → behind_mark false any size whole ≡ (if any then count - whole else 0)
after_is true size whole count same = omega arith
after_is false size whole count same = refl

none_before : {a b : ℕ} → a ≡ 0 + b → a ≡ b
none_before same = omega arith

-- The digits of a text are counted.
pub digits_counted : (text : List Character) (digits : PlainDigits) → IsTrue (list_all is_plain text)
    → digits ≡ with_codes no_digits (map character_code text) → digits.count ≡ length (digits_in text)
digits_counted text digits plain reads =
    let read = text_read text no_digits plain in omega (arith, ap (λ (d : PlainDigits). d.count) reads, read.count)

-- The number that the digits form is that of the text.
pub plain_number_is : PlainTextsAreTyped → (text : List Character) (digits : PlainDigits) (number : Ten) → IsTrue (list_all is_plain text)
    → digits ≡ with_codes no_digits (map character_code text)
    → digits.count ≤ 10
    → IsTypedPlain digits.number digits.places number
    → IsNumberOf text number
plain_number_is plain_texts text digits number plain reads few (exponent, biased, typed) =
    let read = text_read text no_digits plain in
    let size = digits_counted text digits plain reads in
    let worth : digits.number ≡ number_from 0 (digits_in text) = ap (λ (d : PlainDigits). d.number) reads ∙ read.number in
    let behind : digits.places ≡ digits_behind_mark text =
    none_before (ap (λ (d : PlainDigits). d.places) reads ∙ read.places)
    ∙ after_is (list_any is_point text) (length (digits_in text)) (whole_digits text) (length (digits_in text)) refl in
    plain_texts text exponent number plain (omega (arith, size, few)) biased
    (subst (λ (n : ℕ). IsTyped Plus n (digits_behind_mark text) exponent number) worth
    (subst (λ (n : ℕ). IsTyped Plus digits.number n exponent number) behind typed))
