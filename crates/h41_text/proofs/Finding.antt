-- Finding an item by its text.
use Rattle.std.proofs.Common.{◌≡◌, ℕ, zero, suc, ◌+◌, ◌<◌, Bool, true, false, ◌||◌, not, ◌==◌, List, [], ◌∷◌, length, get_or, drop, Option}
use Rattle.std.proofs.Common.{Some, None, refl, ◌∙◌, ap, subst, arith}
use Rattle.std.specs.List.{range_with_len}
use Rattle.std.specs.Option.{option_map, option_and_then}
use Rattle.std.specs.Prelude.{is_some, nat_lt, nat_le, ◌&&◌}
use Rattle.std.specs.Str.{bytes_eq}
use Rattle.std.proofs.lemmas.Bool.{agree_below_at, cond_both, cond-false, false_from_ne_true, false≢true, eq-eqb, eqb-true}
use Rattle.std.proofs.lemmas.Slice.Eq.{bytes_eq-Decides}
use Rattle.h41_codes.specs.declared.line.Line.TheVariants.{Number}
use Rattle.h41_text.specs.LineText.{parameter_text}
use Rattle.h41_text.specs.private.TextParts.{with_text, parameter_of, number_of, character_of, characters_of, two_digits_of}

-- A text with a byte that is no character of a number is no number.
pub characters_none : (text : List ℕ) (index : ℕ) → index < length text → character_of (get_or text index 0) ≡ None
    → characters_of (drop index text) ≡ None
characters_none [] index inside none = absurd (omega arith)
characters_none (byte ∷ text) zero inside none =
    ap (option_and_then (λ character. option_map (λ more. character ∷ more) (characters_of text))) none
characters_none (byte ∷ text) (suc index) inside none = characters_none text index (omega arith) none

pub number_none : (text : List ℕ) → characters_of text ≡ None → number_of text ≡ None
number_none text none =
    cond_both (nat_lt 0 (length text) && nat_le (length text) 16) (option_map Number (characters_of text)) None (λ line. line ≡ None)
    (λ short. ap (option_map Number) none) (λ long. refl)

-- A parameter with two characters is two digits.
reads_two : ℕ → Bool
reads_two number =
    not (length (parameter_text number) == 2)
    || is_some (two_digits_of (get_or (parameter_text number) 0 0) (get_or (parameter_text number) 1 0))

pub two_none : (text : List ℕ) → length text ≡ 2 → two_digits_of (get_or text 0 0) (get_or text 1 0) ≡ None
    → (number : ℕ) → number < 128 → parameter_text number ≡ text → ⊥
unfolding reads_two
two_none text size none number inside same =
    let reads : reads_two number ≡ true = agree_below_at reads_two (λ n. true) 128 number refl inside in
    let two : (length (parameter_text number) == 2) ≡ true = eq-eqb _ 2 (ap length same ∙ size) in
    let read : is_some (two_digits_of (get_or (parameter_text number) 0 0) (get_or (parameter_text number) 1 0)) ≡ true = rw two at reads in
    let other : is_some (two_digits_of (get_or text 0 0) (get_or text 1 0)) ≡ true = rw same at read in
    absurd (false≢true (rw none at other))

-- Each parameter is found by its text.
finds_parameter : ℕ → Bool
finds_parameter number = elim (parameter_of (parameter_text number)) [ None ↦ false | Some other ↦ other == number ]

pub is_found : (number : ℕ) (found : Option ℕ) → elim found [ None ↦ false | Some other ↦ other == number ] ≡ true → found ≡ Some number
is_found number None same = absurd (false≢true same)
is_found number (Some other) same = ap Some (eqb-true other number same)

pub parameter_found : (number : ℕ) → number < 128 → parameter_of (parameter_text number) ≡ Some number
unfolding finds_parameter
parameter_found number inside =
    is_found number (parameter_of (parameter_text number)) (agree_below_at finds_parameter (λ n. true) 128 number refl inside)

range_none : (text : List ℕ) (first count : ℕ) → ((number : ℕ) → number < first + count → parameter_text number ≡ text → ⊥)
    → with_text parameter_text (range_with_len first count) text ≡ None
range_none text first zero none = refl
range_none text first (suc count) none =
    cond-false (bytes_eq (parameter_text first) text) _ _
    (false_from_ne_true _ (λ same. none first (omega arith) ((bytes_eq-Decides (parameter_text first) text).0 same)))
    ∙ range_none text (first + 1) count (λ number inside. none number (omega arith))

pub parameter_is : (text : List ℕ) (number : ℕ) → number < 128 → parameter_text number ≡ text → parameter_of text ≡ Some number
parameter_is text number inside same = subst (λ (t : List ℕ). parameter_of t ≡ Some number) same (parameter_found number inside)

pub parameter_none : (text : List ℕ) → ((number : ℕ) → number < 128 → parameter_text number ≡ text → ⊥) → parameter_of text ≡ None
parameter_none text none = range_none text 0 128 (λ number inside. none number (omega arith))
