use Rattle.std.proofs.Common.{◌≡◌, ℕ, ◌+◌, ◌-◌, ◌<◌, ◌≤◌, true, false, List, [], ◌∷◌, ◌++◌, append_assoc, drop, length, length-drop, take}
use Rattle.std.proofs.Common.{ap, arith, sym, ◌∙◌}
use Rattle.std.proofs.lemmas.Bool.Decides.{nat_tests}
use Rattle.std.proofs.lemmas.Slice.{between_to_end}
use Rattle.h41_codes.specs.Counts.{number_most}
use Rattle.h41_codes.specs.NumberCharacters.{exponent_place}
use Rattle.h41_codes.specs.declared.characters.Character.{Character}
use Rattle.h41_codes.specs.declared.characters.Character.TheVariants.{Exponent, Minus}
use Rattle.h41_keys.specs.KeyPress.{press_of_number, number_becomes}
use Rattle.h41_keys.specs.NumberTyping.{begins_with_minus, kept_within, with_sign_turned}
use Rattle.h41_keys.proofs.number.sign_turned.Goals as goal

behind : (n : ℕ) (text : List Character) → take (length text - n) (drop n text) ≡ drop n text
behind n text = between_to_end text n (length text) (omega arith)

-- CHS on an exponent.
exponent_loses : (text part rest : List Character) (end : ℕ) → end ≡ exponent_place text → end < length text → part ≡ drop (end + 1) text
    → rest ≡ drop 1 part → begins_with_minus part ≡ true → take end text ++ Exponent ∷ [] ++ rest ≡ with_sign_turned text
exponent_loses text part rest end place within is_part is_rest minus = grind (arith, nat_tests, append_assoc)

exponent_gets : (text part : List Character) (end : ℕ) → end ≡ exponent_place text → end < length text → part ≡ drop (end + 1) text
    → begins_with_minus part ≡ false → take end text ++ Exponent ∷ Minus ∷ [] ++ part ≡ with_sign_turned text
exponent_gets text part end place within is_part minus = grind (arith, nat_tests, append_assoc)

-- CHS on a mantissa.
mantissa_loses : (text rest : List Character) (end : ℕ) → end ≡ exponent_place text → length text ≤ end → length text ≤ number_most
    → rest ≡ drop 1 text → begins_with_minus text ≡ true → rest ≡ kept_within text (with_sign_turned text)
mantissa_loses text rest end place without bound is_rest minus = grind (arith, nat_tests, length-drop)

pub returns-then-begins_with_minus : goal.returns-then-begins_with_minus
returns-then-begins_with_minus c =
    let text = c.characters-text.result.now in
    let end = c.exponent_place-end.result in
    c.spliced.ensures
    ∙ ap (press_of_number c.args.input text)
    (exponent_loses text _ _ end c.exponent_place-end.ensures.place c.if-end-text.true (behind (end + 1) text) (behind 1 _)
    (sym c.begins_with_minus.ensures.value ∙ c.if-begins_with_minus.true))
    ∙ ap (λ (of : List Character). press_of_number c.args.input of (with_sign_turned of)) c.characters-text.ensures.text

pub returns-else-begins_with_minus : goal.returns-else-begins_with_minus
returns-else-begins_with_minus c =
    let text = c.characters-text.result.now in
    let end = c.exponent_place-end.result in
    c.spliced-else-begins_with_minus.ensures
    ∙ ap (press_of_number c.args.input text)
    (exponent_gets text _ end c.exponent_place-end.ensures.place c.if-end-text.true (behind (end + 1) text)
    (sym c.begins_with_minus.ensures.value ∙ c.if-begins_with_minus.false))
    ∙ ap (λ (of : List Character). press_of_number c.args.input of (with_sign_turned of)) c.characters-text.ensures.text

pub returns-then-begins_with_minus-2 : goal.returns-then-begins_with_minus-2
returns-then-begins_with_minus-2 c =
    let text = c.characters-text.result.now in
    c.becomes.ensures
    ∙ ap (number_becomes c.args.input text)
    (mantissa_loses text _ c.exponent_place-end.result c.exponent_place-end.ensures.place c.if-end-text.false
    c.characters-text.ensures.bound (behind 1 text)
    (sym c.begins_with_minus-else-end-text.ensures.value ∙ c.if-begins_with_minus-2.true))
    ∙ ap (λ (of : List Character). press_of_number c.args.input of (with_sign_turned of)) c.characters-text.ensures.text
