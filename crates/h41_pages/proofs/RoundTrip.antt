-- The words of an image's bytes.
use Rattle.std.proofs.Common.{◌≡◌, ℕ, zero, suc, ◌+◌, ◌*◌, ◌/◌, ◌%◌, List, [], ◌∷◌, length, arith, refl, ap, ◌∙◌, map, slice_index, rules}
use Rattle.std.specs.List.{range_with_len}
use Rattle.h41_pages.specs.Images.{image_bytes, word_in_bytes, first_words}

-- A list after a word.
cons_with : {X : Type 0} {x y : X} {xs ys : List X} → x ≡ y → xs ≡ ys → x ∷ xs ≡ y ∷ ys
cons_with {x = x} {ys = ys} first others = ap (λ rest. x ∷ rest) others ∙ ap (λ head. head ∷ ys) first

-- Two more bytes move a word by one.
place_shifted : (high low : ℕ) (rest : List ℕ) (place other : ℕ) → other ≡ suc (suc place)
    → slice_index (high ∷ low ∷ rest) other ≡ slice_index rest place
place_shifted high low rest place other same = ap (slice_index (high ∷ low ∷ rest)) same

word_shifted : (high low : ℕ) (rest : List ℕ) (offset : ℕ) → word_in_bytes (high ∷ low ∷ rest) (offset + 1) ≡ word_in_bytes rest offset
word_shifted high low rest offset = search (rules, place_shifted)

words_shifted : (high low : ℕ) (rest : List ℕ) (from count : ℕ)
    → map (word_in_bytes (high ∷ low ∷ rest)) (range_with_len (from + 1) count) ≡ map (word_in_bytes rest) (range_with_len from count)
words_shifted high low rest from zero = refl
words_shifted high low rest from (suc count) = search (rules, cons_with, word_shifted, words_shifted high low rest (from + 1) count)

-- The bytes of words spell these words.
pub read_back : (words : List ℕ) → first_words (image_bytes words) (length words) ≡ words
unfolding first_words
read_back [] = refl
read_back (word ∷ words) =
    cons_with (omega arith) (words_shifted (word / 256) (word % 256) (image_bytes words) 0 (length words) ∙ read_back words)

pub bytes_count : (words : List ℕ) → length (image_bytes words) ≡ 2 * length words
bytes_count [] = refl
bytes_count (word ∷ words) = omega (arith, bytes_count words)
