-- The exponent of a number line is in range, so its characters have the value of a number.
use Rattle.std.proofs.Common.{◌≡◌, ℕ, ◌≤◌, List, [], ◌∷◌, take, refl, arith}
use Rattle.std.specs.List.{AllByRecursion}
use Rattle.std.specs.Option.{option_map_or}
use Rattle.h41_codes.specs.NumberCharacters.{exponent_part, mantissa_part}
use Rattle.h41_codes.specs.declared.characters.Character.{Character}
use Rattle.h41_codes.specs.declared.characters.Character.TheVariants as characters
use Rattle.h41_decimal.specs.declared.parts.Exponent.{Exponent}
use Rattle.h41_decimal.specs.declared.sign.Sign.{Sign}
use Rattle.h41_decimal.specs.declared.sign.Sign.TheVariants.{Plus, Minus}
use Rattle.h41_numbers.specs.NumberLaws.{NumbersAreDetermined}
use Rattle.h41_numbers.specs.NumberLines.{biased_by, decimal_places, digit_of, digits_in, exponent_size, mantissa_digits}
use Rattle.h41_numbers.specs.NumberLines.{number_from, sign_in}
use Rattle.h41_laws_words.specs.DecimalAnswers.{TypedHasOneNumber}
use Rattle.h41_laws_words.proofs.Answering.{has_one}
use Rattle.h41_laws_calculator.specs.LineValues.{NumberLineHasOneNumber}

abbrev AreDigits : List ℕ → Type 0
AreDigits digits = AllByRecursion (λ digit. digit ≤ 9) digits

-- One character more.
one_more : (character : Character) (digits : List ℕ) → AreDigits digits
    → AreDigits (option_map_or (λ digit. digit ∷ digits) (digit_of character) digits)
one_more characters.Point digits are = are
one_more characters.Exponent digits are = are
one_more characters.Minus digits are = are
one_more character digits are = (omega arith, are)

are_digits : (text : List Character) → AreDigits (digits_in text)
are_digits [] = tt
are_digits (character ∷ text) = one_more character (digits_in text) (are_digits text)

two_digits : (digits : List ℕ) → AreDigits digits → number_from 0 (take 2 digits) ≤ 99
two_digits [] are = omega arith
two_digits (first ∷ []) are = omega (arith, are.0)
two_digits (first ∷ (second ∷ rest)) are = omega (arith, are.0, are.1.0)

biased_in_range : (sign : Sign) (size : ℕ) → size ≤ 99 → biased_by sign size ≤ 198
biased_in_range Plus size small = omega arith
biased_in_range Minus size small = omega arith

exponent_of : (text : List Character) → Exponent
exponent_of text = record {
  biased = biased_by (sign_in (exponent_part text)) (exponent_size text);
  in_range =
      biased_in_range (sign_in (exponent_part text)) (exponent_size text)
      (two_digits (digits_in (exponent_part text)) (are_digits (exponent_part text)));
}

exponent_of-biased : (text : List Character) → (exponent_of text).biased ≡ biased_by (sign_in (exponent_part text)) (exponent_size text)
unfolding exponent_of
exponent_of-biased text = refl

pub one_number : TypedHasOneNumber → NumbersAreDetermined → NumberLineHasOneNumber
one_number typed determined text =
    let exponent = exponent_of text in
    let found = typed (sign_in (mantissa_part text)) (number_from 0 (mantissa_digits text)) (decimal_places text) exponent in
    has_one
    (record { answer = found.answer; right = record { exponent = exponent; biased = exponent_of-biased text; typed = found.right } })
    (determined text)
