-- The words of an image and their bytes, one word at a time.
use Rattle.std.proofs.Common.{◌≡◌, ℕ, ◌+◌, ◌<◌, List, ◌++◌, length, take, get_or, ap, map, rules}
use Rattle.std.proofs.lemmas.Grind.{take_at_read, flat_map-append}
use Rattle.h41_pages.specs.Images.{word_bytes, image_bytes, word_in_bytes, first_words}
use Rattle.h41_pages.proofs.Ranges.{up_to, up_to-zero}

-- The bytes with those of one more word.
pub bytes_more : (words : List ℕ) (index : ℕ) → index < length words
    → image_bytes (take (index + 1) words) ≡ image_bytes (take index words) ++ word_bytes (get_or words index 0)
bytes_more words index below = search (rules, take_at_read, flat_map-append)

-- The words that bytes form, as the loop computes them.
pub first_words_made : (bytes : List ℕ) (count : ℕ) → first_words bytes count ≡ map (word_in_bytes bytes) (up_to 0 count)
unfolding first_words
first_words_made bytes count = ap (map (word_in_bytes bytes)) (up_to-zero count)
