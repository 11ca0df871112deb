-- The parts of a number line: the places of the E and the point, and the digits that are used.
use Rattle.std.proofs.Common.{◌≡◌, ℕ, suc, ◌+◌, ◌-◌, ◌<◌, ◌≤◌, Bool, true, false, not, ◌&&◌, ◌||◌, cond, List, [], ◌∷◌, length, take, drop}
use Rattle.std.proofs.Common.{if◌then◌else◌, refl, sym, ◌∙◌, ap, subst, arith, eq-eqb, length-take, length-drop}
use Rattle.std.specs.List.{list_any, position_or_len}
use Rattle.std.proofs.lemmas.Bool.{ne_eqb}
use Rattle.h41_codes.specs.declared.characters.Character.{Character}
use Rattle.h41_decimal.specs.NumberEntry.{IsTyped}
use Rattle.h41_decimal.specs.declared.parts.Exponent.{Exponent}
use Rattle.h41_decimal.specs.declared.sign.Sign.{Sign}
use Rattle.h41_decimal.specs.declared.ten.Ten.{Ten}
use Rattle.h41_codes.specs.NumberCharacters.{exponent_part, is_exponent, is_point, mantissa_part}
use Rattle.h41_numbers.specs.NumberLines.{IsNumberOf, biased_by, decimal_places, digits_in}
use Rattle.h41_numbers.specs.NumberLines.{mantissa_digits, number_from, sign_in, whole_digits}

any_step : (here : Bool) (place size : ℕ) (rest : Bool) → (place < size → rest ≡ true) → cond (not here) (1 + place) 0 < suc size
    → (here || rest) ≡ true
any_step true place size rest behind within = refl
any_step false place size rest behind within = behind (omega arith)

-- If the place of a character is inside a text, the text has this character.
any_within : (test : Character → Bool) (text : List Character) → position_or_len test text < length text → list_any test text ≡ true
any_within test [] within = absurd (omega arith)
any_within test (character ∷ text) within =
    any_step (test character) (position_or_len test text) (length text) (list_any test text) (any_within test text) within

none_step : (here : Bool) (place size : ℕ) (rest : Bool) → (size ≤ place → rest ≡ false) → suc size ≤ cond (not here) (1 + place) 0
    → (here || rest) ≡ false
none_step true place size rest behind past = absurd (omega arith)
none_step false place size rest behind past = behind (omega arith)

-- If it is not, the text does not have it.
none_past : (test : Character → Bool) (text : List Character) → length text ≤ position_or_len test text → list_any test text ≡ false
none_past test [] past = refl
none_past test (character ∷ text) past =
    none_step (test character) (position_or_len test text) (length text) (list_any test text) (none_past test text) past

both : (a b : Bool) (x y : List ℕ) → a ≡ true → b ≡ true → (if a && b then x else y) ≡ x
both a b x y first second = rw (first, second) refl

first_fails : (a b : Bool) (x y : List ℕ) → a ≡ false → (if a && b then x else y) ≡ y
first_fails a b x y fails = rw fails refl

second_fails : (a b : Bool) (x y : List ℕ) → b ≡ false → (if a && b then x else y) ≡ y
second_fails true b x y fails = rw fails refl
second_fails false b x y fails = refl

-- An E with no digit before it gives a 1.
pub mantissa_one : (text : List Character) (place : ℕ) → place ≡ position_or_len is_exponent text
    → length (take 10 (digits_in (take place text))) ≡ 0 → place < length text → mantissa_digits text ≡ 1 ∷ []
mantissa_one text place at empty within =
    let same : take place text ≡ mantissa_part text = ap (λ (n : ℕ). take n text) at in
    let few : length (take 10 (digits_in (mantissa_part text))) ≡ 0 =
    sym (ap (λ (part : List Character). length (take 10 (digits_in part))) same) ∙ empty in
    let none : length (digits_in (mantissa_part text)) ≡ 0 = omega (arith, length-take 10 (digits_in (mantissa_part text)), few) in
    both _ _ _ _ (eq-eqb _ _ none) (any_within is_exponent text (omega (arith, at, within)))

-- The mantissa if it has a digit.
pub mantissa_some : (text : List Character) (place : ℕ) → place ≡ position_or_len is_exponent text
    → 0 < length (take 10 (digits_in (take place text))) → mantissa_digits text ≡ take 10 (digits_in (take place text))
mantissa_some text place at some =
    let same : take place text ≡ mantissa_part text = ap (λ (n : ℕ). take n text) at in
    let here : length (take 10 (digits_in (take place text))) ≡ length (take 10 (digits_in (mantissa_part text))) =
    ap (λ (part : List Character). length (take 10 (digits_in part))) same in
    let more : 0 < length (digits_in (mantissa_part text)) = omega (arith, length-take 10 (digits_in (mantissa_part text)), here, some) in
    first_fails _ _ _ _ (ne_eqb (length (digits_in (mantissa_part text))) 0 (λ none. absurd (omega (arith, none, more))))
    ∙ sym (ap (λ (part : List Character). take 10 (digits_in part)) same)

-- The mantissa if there is no E.
pub mantissa_alone : (text : List Character) (place : ℕ) → place ≡ position_or_len is_exponent text → length text ≤ place
    → mantissa_digits text ≡ take 10 (digits_in (take place text))
mantissa_alone text place at past =
    let same : take place text ≡ mantissa_part text = ap (λ (n : ℕ). take n text) at in
    second_fails _ _ _ _ (none_past is_exponent text (omega (arith, at, past)))
    ∙ sym (ap (λ (part : List Character). take 10 (digits_in part)) same)

-- How many of the used digits are after the point, whose place is given.
pub places_within : (text : List Character) (place count front : ℕ) → place ≡ position_or_len is_point text → place < length text
    → count ≤ 10 → front ≡ length (take 10 (digits_in (take place text)))
    → count - front ≡ (if list_any is_point text then count - whole_digits text else 0)
places_within text place count front at within few is =
    let whole : length (digits_in (take place text)) ≡ whole_digits text = ap (λ (n : ℕ). length (digits_in (take n text))) at in
    let less : count - front ≡ count - whole_digits text = omega (arith, length-take 10 (digits_in (take place text)), whole, is, few) in
    let some : list_any is_point text ≡ true = any_within is_point text (omega (arith, at, within)) in
    less ∙ sym (ap (λ (b : Bool). if b then count - whole_digits text else 0) some)

pub places_past : (text : List Character) (place count : ℕ) → place ≡ position_or_len is_point text → length text ≤ place
    → 0 ≡ (if list_any is_point text then count - whole_digits text else 0)
places_past text place count at past =
    let none : list_any is_point text ≡ false = none_past is_point text (omega (arith, at, past)) in
    sym (ap (λ (b : Bool). if b then count - whole_digits text else 0) none)

-- The number of a text from its parts.
pub number_is : (text part : List Character) (place : ℕ) (sign : Sign) (digits count places : ℕ) (exponent : Exponent) (number : Ten)
    → place ≡ position_or_len is_exponent text
    → sign ≡ sign_in (take place text)
    → digits ≡ number_from 0 (mantissa_digits text)
    → count ≡ length (mantissa_digits text)
    → places ≡ (if list_any is_point (take place text) then count - whole_digits (take place text) else 0)
    → part ≡ exponent_part text
    → exponent.biased ≡ biased_by (sign_in part) (number_from 0 (take 2 (digits_in part)))
    → IsTyped sign digits places exponent number
    → IsNumberOf text number
number_is text part place sign digits count places exponent number at signs worth many behind is biased typed =
    let same : take place text ≡ mantissa_part text = ap (λ (n : ℕ). take n text) at in
    let left : count - whole_digits (mantissa_part text) ≡ length (drop (whole_digits (mantissa_part text)) (mantissa_digits text)) =
    ap (λ (n : ℕ). n - whole_digits (mantissa_part text)) many
    ∙ sym (length-drop (whole_digits (mantissa_part text)) (mantissa_digits text)) in
    let point : places ≡ decimal_places text =
    behind ∙ ap (λ (front : List Character). if list_any is_point front then count - whole_digits front else 0) same
    ∙ ap (λ (n : ℕ). if list_any is_point (mantissa_part text) then n else 0) left in
    let front : sign ≡ sign_in (mantissa_part text) = signs ∙ ap sign_in same in
    record {
      exponent = exponent;
      biased = biased ∙ ap (λ (behind : List Character). biased_by (sign_in behind) (number_from 0 (take 2 (digits_in behind)))) is;
      typed =
          subst (λ (s : Sign). IsTyped s (number_from 0 (mantissa_digits text)) (decimal_places text) exponent number) front
          (subst (λ (n : ℕ). IsTyped sign n (decimal_places text) exponent number) worth
          (subst (λ (n : ℕ). IsTyped sign digits n exponent number) point typed));
    }
