-- The hexadecimal digits of a number, read again.
use Rattle.std.proofs.Common.{◌≡◌, ℕ, zero, suc, ◌+◌, ◌*◌, ◌/◌, ◌%◌, ◌^◌, ◌<◌, Bool, true, List, [], ◌∷◌, ◌++◌, length, ◌==◌, Some, refl}
use Rattle.std.proofs.Common.{ap, ◌∙◌, arith, length-append}
use Rattle.std.proofs.Math.Nat.{pow-suc}
use Rattle.std.specs.Char.{is_digit, digit_value}
use Rattle.std.specs.Fmt.{digit_glyph}
use Rattle.std.specs.List.{list_all}
use Rattle.std.specs.Str.Parse.{digits_value, digits_value_after}
use Rattle.std.proofs.lemmas.Bool.{agree_below_at, eqb-true, and_from, cond-true, lt-ltb, le-leb}
use Rattle.std.proofs.lemmas.List.Folds.{list_all-append}
use Rattle.h41_digits.specs.Register.{hexadecimal_text}
use Rattle.h41_lines.specs.Laws.{HexadecimalRoundTrip}
use Rattle.h41_lines.specs.Numbers.{is_numeral, is_hexadecimal}

-- A test that each of the sixteen digits passes.
abbrev pub passes_all : (ℕ → Bool) → Type 0
passes_all test = (digit : ℕ) → digit < 16 → test (digit_glyph true digit) ≡ true

digit_of_glyph : passes_all (λ byte. is_digit byte 16)
digit_of_glyph digit inside = agree_below_at (λ d. is_digit (digit_glyph true d) 16) (λ _. true) 16 digit refl inside

value_of_glyph : (digit : ℕ) → digit < 16 → digit_value (digit_glyph true digit) ≡ digit
value_of_glyph digit inside =
    eqb-true _ digit (agree_below_at (λ d. digit_value (digit_glyph true d) == d) (λ _. true) 16 digit refl inside)

pub length-hexadecimal : (count number : ℕ) → length (hexadecimal_text count number) ≡ count
length-hexadecimal zero number = refl
length-hexadecimal (suc count) number =
    omega (
      arith,
      length-append (hexadecimal_text count (number / 16)) (digit_glyph true (number % 16) ∷ []),
      length-hexadecimal count (number / 16),
    )

pub all_hexadecimal : (test : ℕ → Bool) → passes_all test → (count number : ℕ) → list_all test (hexadecimal_text count number) ≡ true
all_hexadecimal test each zero number = refl
all_hexadecimal test each (suc count) number =
    list_all-append test (hexadecimal_text count (number / 16)) (digit_glyph true (number % 16) ∷ [])
    ∙ and_from _ _ (all_hexadecimal test each count (number / 16)) (and_from _ _ (each (number % 16) (omega arith)) refl)

value_after-append : (before : ℕ) (digits : List ℕ) (last : ℕ)
    → digits_value_after 16 before (digits ++ last ∷ []) ≡ digits_value_after 16 before digits * 16 + digit_value last
value_after-append before [] last = refl
value_after-append before (digit ∷ digits) last = value_after-append (before * 16 + digit_value digit) digits last

value_of_hexadecimal : (count number : ℕ) → number < 16 ^ count → digits_value 16 (hexadecimal_text count number) ≡ number
value_of_hexadecimal zero number inside = omega arith
value_of_hexadecimal (suc count) number inside =
    let fits : number / 16 < 16 ^ count = omega (arith, pow-suc 16 count) in
    value_after-append 0 (hexadecimal_text count (number / 16)) (digit_glyph true (number % 16))
    ∙ omega (arith, value_of_hexadecimal count (number / 16) fits, value_of_glyph (number % 16) (omega arith))

-- Hexadecimal digits determine a number that fits into them.
pub read_hexadecimal : HexadecimalRoundTrip
read_hexadecimal count number some inside =
    let text : List ℕ = hexadecimal_text count number in
    let long = length-hexadecimal count number in
    let numeral : is_numeral 16 text ≡ true =
    and_from _ _ (lt-ltb 0 (length text) (omega (arith, long))) (all_hexadecimal (λ byte. is_digit byte 16) digit_of_glyph count number) in
    let size = and_from _ _ (le-leb count (length text) (omega (arith, long))) (le-leb (length text) count (omega (arith, long))) in
    cond-true (is_hexadecimal count count text) _ _ (and_from _ _ numeral size) ∙ ap Some (value_of_hexadecimal count number inside)
