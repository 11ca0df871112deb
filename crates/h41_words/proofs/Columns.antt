-- The words that no row of the listing has, column by column.
use Rattle.std.specs.Prelude.{◌≡◌, ℕ, map, filter, ◌/◌, ◌%◌, ◌<◌, ◌⊎◌, Bool, true, false, List, [], ◌∷◌, ◌++◌, Contains, ◌==◌}
use Rattle.std.specs.List.{range_with_len, list_any, list_all}
use Rattle.std.proofs.Common.{sym, ◌∙◌, ap, arith, inl, inr}
use Rattle.std.proofs.lemmas.Bool.{both_ways, or_cases}
use Rattle.std.proofs.lemmas.List.Folds.{list_any-append}
use Rattle.h41_words.specs.Listing.{single_rows}
use Rattle.h41_words.specs.WordTable.{number_of, word_at}
use Rattle.h41_words.specs.Unassigned.{unassigned_words}
use Rattle.h41_words.proofs.Members.{in_range, at_member, found}

-- Whether a number is in a list.
abbrev pub is_one_of : List ℕ → ℕ → Bool
is_one_of numbers number = list_any (λ other. other == number) numbers

-- The numbers of the single words in some columns.
abbrev pub numbers_in : List ℕ → List ℕ
numbers_in columns = filter (λ number. is_one_of columns (number % 64)) (map number_of single_rows)

-- The mapped columns.
abbrev pub mapped : List ℕ
mapped = 0x04 ∷ 0x08 ∷ 0x0C ∷ 0x14 ∷ 0x1C ∷ 0x3C ∷ []

-- Whether each word in these lines of a column is in the list or unassigned.
unfoldable pub covers : List ℕ → ℕ → List ℕ → Bool
covers lines column listed = list_all (λ line. is_one_of (listed ++ unassigned_words) (word_at line column)) lines

-- A word in such lines that is not in the list is unassigned.
pub unassigned_in : (lines : List ℕ) (column : ℕ) (listed : List ℕ) (word : ℕ) → covers lines column listed ≡ true
    → Contains lines (word / 64) → word % 64 ≡ column → is_one_of listed word ≡ false → Contains unassigned_words word
unfolding covers
unassigned_in lines column listed word all line at none =
    let same : word_at (word / 64) column ≡ word = omega arith in
    let one : is_one_of (listed ++ unassigned_words) word ≡ true =
    ap (is_one_of (listed ++ unassigned_words)) (sym same)
    ∙ at_member (λ l. is_one_of (listed ++ unassigned_words) (word_at l column)) lines (word / 64) all line in
    elim (or_cases (is_one_of listed word) (is_one_of unassigned_words word)
    (sym (list_any-append (λ other. other == word) listed unassigned_words) ∙ one)) [
      | inl is_listed ↦ absurd (both_ways _ none is_listed)
      | inr is_unassigned ↦ found word unassigned_words is_unassigned
    ]

-- A word of a whole column that is not in the list is unassigned.
pub unassigned_unless : (column : ℕ) (listed : List ℕ) (word : ℕ) → covers (range_with_len 0 16) column listed ≡ true
    → word < 1024 → word % 64 ≡ column → is_one_of listed word ≡ false → Contains unassigned_words word
unassigned_unless column listed word all inside at none =
    unassigned_in (range_with_len 0 16) column listed word all (in_range 0 16 (word / 64) (omega arith) (omega arith)) at none

-- A word in the two lines of a mapped column that mean no number is unassigned if it is not in the list.
pub unassigned_unmapped : (column : ℕ) (listed : List ℕ) (word : ℕ) → covers (7 ∷ 15 ∷ []) column listed ≡ true
    → (word / 64 ≡ 7) ⊎ (word / 64 ≡ 15) → word % 64 ≡ column → is_one_of listed word ≡ false → Contains unassigned_words word
unassigned_unmapped column listed word all line at none =
    unassigned_in (7 ∷ 15 ∷ []) column listed word all (elim line [ inl e ↦ (0, (omega arith), sym e) | inr e ↦ (1, (omega arith), sym e) ])
    at none
