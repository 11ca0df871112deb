-- What one more word, and one more line, make of a page.
use Rattle.std.proofs.Common.{inl, inr, ◌≡◌, ℕ, ◌<◌, Bool, true, false, not, ◌&&◌, ◌||◌, cond, nat_lt, List, [], ◌∷◌, ◌++◌, map, length}
use Rattle.std.proofs.Common.{filter, flat_map, Option, Some, None, Result, Ok, Err, refl, sym, ◌∙◌, ap, arith, if◌then◌else◌, append-nil}
use Rattle.std.proofs.Common.{suc, length-append, ◌⊎◌}
use Rattle.std.specs.List.{list_all, list_any}
use Rattle.std.specs.Option.{option_or}
use Rattle.std.specs.Str.Parse.{digits_value}
use Rattle.std.proofs.lemmas.Bool.{lt-ltb, ltb-true, or_cases, or_left, or_right}
use Rattle.std.proofs.lemmas.List.{map-append}
use Rattle.std.proofs.lemmas.List.Elements.{filter-append}
use Rattle.std.proofs.lemmas.List.Folds.{list_all-append, list_any-append}
use Rattle.std.proofs.lemmas.Grind.{flat_map-append}
use Rattle.h41_commands.specs.Blocks.{word_values, block_words}
use Rattle.h41_lines.specs.Words.{words_of}
use Rattle.h41_commands.specs.DeckLines.{is_skipped}
use Rattle.h41_lines.specs.Numbers.{is_hexadecimal}
use Rattle.h41_commands.specs.private.Contents.{unless_fault}
use Rattle.h41_commands.specs.declared.refusal.LineRefusal.{LineRefusal}
use Rattle.h41_commands.specs.declared.refusal.LineRefusal.TheVariants.{BadNumber, BadImage}

abbrev is_hex : List ℕ → Bool
is_hex = is_hexadecimal 1 3

abbrev value : List ℕ → ℕ
value = digits_value 16

abbrev is_big : List ℕ → Bool
is_big word = nat_lt 1023 (value word)

-- The result of `word_values`, by its two tests.
abbrev judged : Bool → Bool → List ℕ → Result (List ℕ) LineRefusal
judged hex image values = if not hex then Err BadNumber else (if image then Err BadImage else Ok values)

pushed : (words : List (List ℕ)) (word : List ℕ)
    → word_values (words ++ word ∷ [])
    ≡ judged (list_all is_hex words && (is_hex word && true))
    (nat_lt 4096 (length (words ++ word ∷ [])) || (list_any is_big words || (is_big word || false))) (map value words ++ value word ∷ [])
pushed words word =
    λ i. judged (list_all-append is_hex words (word ∷ []) i)
    (nat_lt 4096 (length (words ++ word ∷ [])) || list_any-append is_big words (word ∷ []) i) (map-append value words (word ∷ []) i)

-- An error remains.
stays : (hex image more : Bool) (values others : List ℕ) (fault : LineRefusal) → (image ≡ true → more ≡ true)
    → Err fault ≡ judged hex image values → Err fault ≡ judged (hex && true) more others
stays false image more values others fault keeps e = e
stays true true more values others fault keeps e = rw (keeps refl) e
stays true false more values others fault keeps e = cc

-- A page without an error has passed both tests.
passed : (hex image : Bool) (values taken : List ℕ) → Ok taken ≡ judged hex image values → (hex ≡ true) × (image ≡ false) × (taken ≡ values)
passed false image values taken e = cc
passed true true values taken e = cc
passed true false values taken e = (refl, refl, cc)

grows : (words : List (List ℕ)) (word : List ℕ) → (nat_lt 4096 (length words) || list_any is_big words) ≡ true
    → (nat_lt 4096 (length (words ++ word ∷ [])) || (list_any is_big words || (is_big word || false))) ≡ true
grows words word e =
    let more = length-append words (word ∷ []) in
    elim (or_cases (nat_lt 4096 (length words)) (list_any is_big words) e) [
      | inl many ↦
          let before : 4096 < length words = ltb-true _ _ many in or_left _ _ (lt-ltb 4096 (length (words ++ word ∷ [])) (omega arith))
      | inr big ↦ or_right _ _ (or_left _ _ big)
    ]

fault_stays : (words : List (List ℕ)) (word : List ℕ) (fault : LineRefusal) → is_hex word ≡ true → Err fault ≡ word_values words
    → Err fault ≡ word_values (words ++ word ∷ [])
fault_stays words word fault hex e =
    rw (pushed words word, hex) (stays (list_all is_hex words) _ _ (map value words) _ fault (grows words word) e)

never : (b : Bool) → (b && false) ≡ false
never true = refl
never false = refl

pub word_values-bad : (words : List (List ℕ)) (word : List ℕ) → is_hex word ≡ false → word_values (words ++ word ∷ []) ≡ Err BadNumber
word_values-bad words word bad = rw (pushed words word, bad, never (list_all is_hex words)) refl

length_values : (words : List (List ℕ)) → length (map value words) ≡ length words
length_values [] = refl
length_values (word ∷ words) = ap (λ (n : ℕ). suc n) (length_values words)

-- A word that is too great, or one too many.
pub word_values-image : (words : List (List ℕ)) (word : List ℕ) (fault : Option LineRefusal) (taken : List ℕ) → is_hex word ≡ true
    → (1023 < value word) ⊎ (length taken ≡ 4096) → unless_fault fault taken ≡ word_values words
    → unless_fault (option_or fault (Some BadImage)) taken ≡ word_values (words ++ word ∷ [])
word_values-image words word (Some fault) taken hex over e = fault_stays words word fault hex e
word_values-image words word None taken hex over e =
    let good = passed (list_all is_hex words) _ (map value words) taken e in
    let more = length-append words (word ∷ []) in
    let fault : (nat_lt 4096 (length (words ++ word ∷ [])) || (list_any is_big words || (is_big word || false))) ≡ true = elim over [
      | inl great ↦ or_right _ _ (or_right _ _ (or_left _ _ (lt-ltb 1023 (value word) great)))
      | inr full ↦
          let same : length words ≡ 4096 =
          sym (length_values words) ∙ ap length (sym good.2) ∙ full in
          or_left _ _ (lt-ltb 4096 (length (words ++ word ∷ [])) (omega arith))
    ] in
    rw (pushed words word, good.0, hex, fault) refl

-- The result of reading one word.
hex_of : (hex : Bool) (number n : ℕ) → Ok n ≡ (if hex then Ok number else Err BadNumber) → (hex ≡ true) × (n ≡ number)
hex_of true number n e = (refl, cc)
hex_of false number n e = cc

pub hex-Ok : (word : List ℕ) (n : ℕ) → Ok n ≡ (if is_hex word then Ok (value word) else Err BadNumber)
    → (is_hex word ≡ true) × (n ≡ value word)
hex-Ok word n e = hex_of (is_hex word) (value word) n e

no_hex_of : (hex : Bool) (number : ℕ) (fault : LineRefusal) → Err fault ≡ (if hex then Ok number else Err BadNumber)
    → (hex ≡ false) × (fault ≡ BadNumber)
no_hex_of true number fault e = cc
no_hex_of false number fault e = (refl, cc)

pub hex-Err : (word : List ℕ) (fault : LineRefusal) → Err fault ≡ (if is_hex word then Ok (value word) else Err BadNumber)
    → (is_hex word ≡ false) × (fault ≡ BadNumber)
hex-Err word fault e = no_hex_of (is_hex word) (value word) fault e

-- One more line.
abbrev says : List ℕ → Bool
says line = not (is_skipped line)

pub block_words-push : (inside : List (List ℕ)) (line : List ℕ) → is_skipped line ≡ false
    → block_words (inside ++ line ∷ []) ≡ block_words inside ++ words_of line
block_words-push inside line other =
    ap (flat_map words_of)
    (filter-append says inside (line ∷ []) ∙ ap (λ (b : Bool). filter says inside ++ cond (not b) (line ∷ []) []) other)
    ∙ flat_map-append words_of (filter says inside) (line ∷ [])
    ∙ ap (λ (words : List (List ℕ)). block_words inside ++ words) (append-nil (words_of line))
