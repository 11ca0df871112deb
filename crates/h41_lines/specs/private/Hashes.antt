-- The hash of a word, computed with two numbers. It connects the code with its tables of words; no
-- rule mentions it.
use Rattle.std.specs.Prelude.{ℕ, ◌+◌, ◌*◌, ◌/◌, ◌%◌, List, [], ◌∷◌}

-- The hash continues from an earlier one: each byte is added, and the sum is multiplied by the
-- factor, modulo 65536.
abbrev pub hash_from : ℕ → ℕ → List ℕ → ℕ
hash_from factor hash [] = hash
hash_from factor hash (byte ∷ word) = hash_from factor ((hash + byte) * factor % 65536) word

-- The hash of a word: the upper byte of the result, so that a hash is at most 255.
abbrev pub word_hash : ℕ → ℕ → List ℕ → ℕ
word_hash first factor word = hash_from factor first word / 256
