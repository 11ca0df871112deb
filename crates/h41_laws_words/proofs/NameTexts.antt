-- The words of a name, read backwards from the function that follows them.
use Rattle.std.proofs.Common.{◌≡◌, ℕ, zero, suc, ◌+◌, ◌-◌, ◌/◌, ◌%◌, ◌<◌, ◌≤◌, true, false, not, ◌&&◌, nat_lt, ◌==◌, List}
use Rattle.std.proofs.Common.{[], ◌∷◌, ◌++◌, length, map, take, min, reverse, Some, refl, sym, ap, ◌∙◌, arith, length-append}
use Rattle.std.specs.Prelude.{nat_le, slice_index}
use Rattle.std.specs.List.{list_all}
use Rattle.std.specs.Option.{option_map}
use Rattle.std.proofs.lemmas.Bool.{and_parts, cond_both, leb-true, ltb-false, ltb-true}
use Rattle.std.proofs.lemmas.List.{get_or-reverse, get_or-take, get_or_append_left, length-map, length-reverse, length-take, reverse-append}
use Rattle.std.proofs.lemmas.List.FromFn.{fill_by_all}
use Rattle.h41_asm.specs.Operands.{is_text, is_text_byte}
use Rattle.h41_asm.specs.Statements.{name_words, with_mark}
use Rattle.h41_pages.specs.FunctionTables.{character, is_last, spelled_name, word_before, words_before}

-- Words of which the last is marked as the last of a name.
mark_last : List ℕ → List ℕ
mark_last [] = []
mark_last (word ∷ []) = (word + 0x80) ∷ []
mark_last (word ∷ next ∷ words) = word ∷ mark_last (next ∷ words)

with_mark-append : (words : List ℕ) (word : ℕ) → 0 < length words → with_mark (words ++ word ∷ []) ≡ with_mark words ++ word ∷ []
with_mark-append [] word some = absurd (omega arith)
with_mark-append (first ∷ words) word some = refl

turned : (words : List ℕ) → reverse (with_mark (reverse words)) ≡ mark_last words
unfolding mark_last
turned [] = refl
turned (word ∷ []) = refl
turned (word ∷ next ∷ words) =
    let back = reverse (next ∷ words) in
    ap (λ (all : List ℕ). reverse (with_mark all)) (reverse-append (word ∷ []) (next ∷ words))
    ∙ ap reverse (with_mark-append back word (omega (arith, length-reverse (next ∷ words))))
    ∙ reverse-append (with_mark back) (word ∷ [])
    ∙ ap (λ (all : List ℕ). word ∷ all) (turned (next ∷ words))

length-with_mark : (words : List ℕ) → length (with_mark words) ≡ length words
length-with_mark [] = refl
length-with_mark (word ∷ words) = refl

pub length-name_words : (text : List ℕ) → length (name_words text) ≡ length text
length-name_words text =
    length-with_mark (reverse (map (λ byte. byte % 64) text)) ∙ length-reverse (map (λ byte. byte % 64) text)
    ∙ length-map text (λ byte. byte % 64)

-- One character of a name.
character_read : (byte word : ℕ) → 32 ≤ byte → byte ≤ 95 → word % 64 ≡ byte % 64 → character word ≡ byte
character_read byte word low high same =
    cond_both (nat_lt (word % 64) 0x20) _ _ (λ n. n ≡ byte) (λ t. let small = ltb-true (word % 64) 0x20 t in omega arith)
    (λ t. let large = ltb-false (word % 64) 0x20 t in omega arith)

not_last : (byte : ℕ) → is_last (byte % 64) ≡ false
not_last byte = let none : byte % 64 / 128 % 2 ≡ 0 = omega arith in rw none refl

marked_last : (byte : ℕ) → is_last (byte % 64 + 0x80) ≡ true
marked_last byte = let one : (byte % 64 + 128) / 128 % 2 ≡ 1 = omega arith in rw one refl

in_range : (byte : ℕ) → is_text_byte byte ≡ true → (32 ≤ byte) × (byte ≤ 95)
in_range byte good =
    let both = and_parts (nat_le 0x20 byte) (nat_le byte 0x5F && not (byte == 34)) good in
    (leb-true 0x20 byte both.0, leb-true byte 0x5F (and_parts (nat_le byte 0x5F) (not (byte == 34)) both.1).0)

-- The characters of a text, whatever precedes them.
text_spelled : (text more : List ℕ) (count : ℕ) → 0 < length text → length text ≤ count → list_all is_text_byte text ≡ true
    → spelled_name (take count (mark_last (map (λ byte. byte % 64) text) ++ more)) ≡ Some text
unfolding mark_last
text_spelled [] more count some fits good = absurd (omega arith)
text_spelled (byte ∷ text) more zero some fits good = absurd (omega arith)
text_spelled (byte ∷ []) more (suc count) some fits good =
    let range = in_range byte (and_parts (is_text_byte byte) true good).0 in
    let same : (byte % 64 + 128) % 64 ≡ byte % 64 = omega arith in
    rw (marked_last byte) (ap (λ read. Some (read ∷ [])) (character_read byte (byte % 64 + 128) range.0 range.1 same))
text_spelled (byte ∷ next ∷ text) more (suc count) some fits good =
    let both = and_parts (is_text_byte byte) (list_all is_text_byte (next ∷ text)) good in
    let range = in_range byte both.0 in
    let same : byte % 64 % 64 ≡ byte % 64 = omega arith in
    rw (not_last byte)
    (ap (option_map (λ name. character (byte % 64) ∷ name)) (text_spelled (next ∷ text) more count (omega arith) (omega arith) both.1)
    ∙ ap (λ read. Some (read ∷ next ∷ text)) (character_read byte (byte % 64) range.0 range.1 same))

-- The words before an offset, the last of them first.
words_in_front : (front behind : List ℕ) → words_before (front ++ behind) (length front) ≡ take 11 (reverse front)
words_in_front front behind =
    sym (fill_by_all (word_before (front ++ behind) (length front)) (take 11 (reverse front)) (min (length front) 11) 0
    (length-take 11 (reverse front) ∙ omega (arith, length-reverse front))
    (λ k inside. one_word front behind k (omega arith) (omega arith)))
  where
    one_word : (front behind : List ℕ) (k : ℕ) → k < length front → k < 11
        → slice_index (take 11 (reverse front)) k ≡ word_before (front ++ behind) (length front) k
    one_word front behind k inside few =
        get_or-take 11 (reverse front) k 0 few ∙ get_or-reverse front k 0 inside
        ∙ sym (get_or_append_left front behind 0 (length front - 1 - k) (omega arith))

pub name_spelled : (front text behind : List ℕ) → is_text text ≡ true
    → spelled_name (words_before ((front ++ name_words text) ++ behind) (length front + length text)) ≡ Some text
name_spelled front text behind good =
    let parts = and_parts (nat_lt 0 (length text)) (nat_le (length text) 11 && list_all is_text_byte text) good in
    let more = and_parts (nat_le (length text) 11) (list_all is_text_byte text) parts.1 in
    let size : length front + length text ≡ length (front ++ name_words text) =
    omega (arith, length-append front (name_words text), length-name_words text) in
    ap (λ offset. spelled_name (words_before ((front ++ name_words text) ++ behind) offset)) size
    ∙ ap spelled_name (words_in_front (front ++ name_words text) behind)
    ∙ ap (λ (all : List ℕ). spelled_name (take 11 all))
    (reverse-append front (name_words text) ∙ ap (λ (all : List ℕ). all ++ reverse front) (turned (map (λ byte. byte % 64) text)))
    ∙ text_spelled text (reverse front) 11 (ltb-true 0 (length text) parts.0) (leb-true (length text) 11 more.0) more.1
