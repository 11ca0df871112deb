-- Which lines have no word, or do not end a block, by where their first word begins.
use Rattle.std.proofs.Common.{not, ◌≡◌, ℕ, suc, ◌+◌, ◌==◌, false, List, [], ◌∷◌, drop, get_or, length, take, Option, Some, None}
use Rattle.std.proofs.Common.{is_none, refl, sym, ap, ◌∙◌, arith}
use Rattle.std.specs.List.{position, position_or_len}
use Rattle.std.proofs.lemmas.Bool.{ne_eqb}
use Rattle.std.proofs.lemmas.List.{drop_more}
use Rattle.h41_lines.proofs.FirstWord.{words_of-first, words_of-none}
use Rattle.h41_lines.proofs.Positions.{position_some}
use Rattle.h41_lines.specs.Words.{is_blank, words_of}
use Rattle.h41_commands.proofs.NameEnds.{end_behind}
use Rattle.h41_commands.specs.DeckLines.{is_only_end}

other_word : (byte : ℕ) (word : List ℕ) (others : List (List ℕ)) → (byte == 101) ≡ false → is_only_end ((byte ∷ word) ∷ others) ≡ false
other_word byte word [] other = rw other refl
other_word byte word (next ∷ others) other = refl

pub other_start : (line : List ℕ) (start : ℕ) → Some start ≡ position (λ byte. not (is_blank byte)) line
    → (get_or line start 0 ≡ 101 → ⊥) → is_only_end (words_of line) ≡ false
other_start line start found other =
    let at = position_some (λ byte. not (is_blank byte)) line start found in
    let behind = drop (start + 1) line in
    let n = position_or_len is_blank behind in
    let length : suc n ≡ position_or_len is_blank (drop start line) = omega (arith, end_behind line start n found refl) in
    ap is_only_end (words_of-first line start (suc n) found length)
    ∙ rw (drop_more line start 0 at.1)
    (other_word (get_or line start 0) (take n behind) (words_of (drop n behind)) (ne_eqb (get_or line start 0) 101 other))

some_words : (word : List ℕ) (others : List (List ℕ)) → false ≡ (length (word ∷ others) == 0)
some_words word others = sym (ne_eqb (length (word ∷ others)) 0 (λ none. omega (arith, none)))

pub blank_line : (line : List ℕ) (found : Option ℕ) → found ≡ position (λ byte. not (is_blank byte)) line
    → is_none found ≡ (length (words_of line) == 0)
blank_line line None none = rw (words_of-none line none) refl
blank_line line (Some start) found =
    let n = position_or_len is_blank (drop start line) in
    rw (words_of-first line start n found refl) (some_words (take n (drop start line)) (words_of (drop n (drop start line))))
