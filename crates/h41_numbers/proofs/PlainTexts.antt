-- The number of a text of digits and radix marks.
use Rattle.std.proofs.Common.{◌≡◌, ◌+◌, Bool, true, false, not, ◌&&◌, ◌||◌, cond, List, [], ◌∷◌, length, take}
use Rattle.std.proofs.Common.{filter, IsTrue, if◌then◌else◌, refl, sym, ◌∙◌, ap, arith}
use Rattle.std.specs.Prelude.{◌==◌, ◌%◌, ◌-◌}
use Rattle.std.specs.List.{list_all, list_any, position_or_len}
use Rattle.std.proofs.Math.ListN.{drop_of_length-le}
use Rattle.std.proofs.lemmas.List.{take_all}
use Rattle.h41_codes.specs.NumberCharacters.{exponent_part, is_exponent, is_minus, is_point}
use Rattle.h41_codes.specs.declared.characters.Character.{Character}
use Rattle.h41_decimal.specs.declared.sign.Sign.TheVariants.{Plus, Minus}
use Rattle.h41_numbers.specs.NumberLaws.{PlainTextsAreTyped, is_plain}
use Rattle.h41_numbers.specs.NumberLines.{digits_in, mantissa_digits, number_from, sign_in, whole_digits}
use Rattle.h41_numbers.proofs.NumberParts.{mantissa_alone, number_is}

-- A character that is neither an exponent nor a sign, before others.
record Others (exponent minus rest : Bool) : Type 0 where
  pub no_exponent : exponent ≡ false
  pub no_minus : minus ≡ false
  pub others : IsTrue rest

parts : (exponent minus rest : Bool) → IsTrue (not (exponent || minus) && rest) → Others exponent minus rest
parts false false rest plain = record { no_exponent = refl; no_minus = refl; others = plain }
parts false true rest plain = absurd (cc plain)
parts true minus rest plain = absurd (cc plain)

no_minus : (text : List Character) → IsTrue (list_all is_plain text) → filter is_minus text ≡ []
no_minus [] plain = refl
no_minus (character ∷ text) plain =
    let first = parts (is_exponent character) (is_minus character) (list_all is_plain text) plain in
    ap (λ (minus : Bool). cond minus (character ∷ filter is_minus text) (filter is_minus text)) first.no_minus
    ∙ no_minus text first.others

no_exponent : (text : List Character) → IsTrue (list_all is_plain text) → position_or_len is_exponent text ≡ length text
no_exponent [] plain = refl
no_exponent (character ∷ text) plain =
    let first = parts (is_exponent character) (is_minus character) (list_all is_plain text) plain in
    let behind : position_or_len is_exponent (character ∷ text) ≡ 1 + position_or_len is_exponent text =
    ap (λ (exponent : Bool). cond (not exponent) (1 + position_or_len is_exponent text) 0) first.no_exponent in
    omega (arith, behind, no_exponent text first.others)

pub plain_typed : PlainTextsAreTyped
plain_typed text exponent number plain few biased typed =
    let place : length text ≡ position_or_len is_exponent text = sym (no_exponent text plain) in
    let all : take (length text) text ≡ text = take_all (length text) text (omega arith) in
    let whole : take 10 (digits_in text) ≡ digits_in text = take_all 10 (digits_in text) few in
    let counted : mantissa_digits text ≡ digits_in text =
    mantissa_alone text (length text) place (omega arith) ∙ ap (λ (part : List Character). take 10 (digits_in part)) all ∙ whole in
    let signs : Plus ≡ sign_in (take (length text) text) =
    sym (ap sign_in all
    ∙ ap (λ (minus : List Character). if length minus % 2 == 0 then Plus else Minus) (no_minus text plain)) in
    let part : [] ≡ exponent_part text = sym (drop_of_length-le text (omega (arith, place))) in
    number_is text [] (length text) Plus (number_from 0 (digits_in text)) (length (digits_in text)) _ exponent number
    place signs (sym (ap (number_from 0) counted)) (sym (ap length counted))
    (sym (ap (λ (front : List Character). if list_any is_point front then length (digits_in text) - whole_digits front else 0) all))
    part biased typed
