-- The line of each word is read as that word: for a row of the list, and for a word that is no instruction.
use Rattle.std.proofs.Common.{ℕ, zero, suc, ◌+◌, ◌*◌, ◌<◌, ◌≤◌, ℤ, pos, negsuc, ◌==◌, List, [], ◌∷◌, ◌++◌, map, drop, refl, subst, arith}
use Rattle.std.specs.Fmt.{digits}
use Rattle.std.specs.Prelude.{codes}
use Rattle.std.specs.List.{AllByRecursion, flat_map, range_with_len}
use Rattle.std.proofs.lemmas.Bool.{cond_both}
use Rattle.h41_words.specs.declared.rows.Row.{Row}
use Rattle.h41_words.specs.declared.rows.Condition.{Condition}
use Rattle.h41_words.specs.declared.rows.Condition.TheVariants.{NoCarry, Carry}
use Rattle.h41_words.specs.declared.rows.Row.TheVariants as rows
use Rattle.h41_words.specs.Listing.{fields, operations, displacements, families, listed_rows}
use Rattle.h41_words.specs.Mnemonics.{row_text}
use Rattle.h41_words.specs.WordTable.{number_of, with_numbers, row_in, row_of, word_table, WordOfRow}
use Rattle.h41_asm.specs.Statements.{singles, takers}
use Rattle.h41_laws_words.proofs.ListingRows.{reads_constant, reads_arithmetic, reads_forward, reads_backward, reads_number}
use Rattle.h41_laws_words.proofs.ListingTexts.{Reads}

-- The line of a row is read as the word of the row.
abbrev ReadsRow : Row → Type 0
ReadsRow row = Reads (row_text row) (number_of row ∷ [])

-- What is true of each element of some lists is true of lists made from them.
module _ {A : Type 0} (Holds : A → Type 0) where
  each_append : (xs ys : List A) → AllByRecursion Holds xs → AllByRecursion Holds ys → AllByRecursion Holds (xs ++ ys)
  each_append [] ys before behind = behind
  each_append (x ∷ xs) ys before behind = (before.0, each_append xs ys before.1 behind)

  each_always : (xs : List A) → ((x : A) → Holds x) → AllByRecursion Holds xs
  each_always [] holds = tt
  each_always (x ∷ xs) holds = (holds x, each_always xs holds)

  each_map : {B : Type 0} (f : B → A) (xs : List B) → AllByRecursion (λ x. Holds (f x)) xs → AllByRecursion Holds (map f xs)
  each_map f [] each = tt
  each_map f (x ∷ xs) each = (each.0, each_map f xs each.1)

  each_flat_map : {B : Type 0} (f : B → List A) (xs : List B) → AllByRecursion (λ x. AllByRecursion Holds (f x)) xs
      → AllByRecursion Holds (flat_map f xs)
  each_flat_map f [] each = tt
  each_flat_map f (x ∷ xs) each = each_append (f x) (flat_map f xs) each.0 (each_flat_map f xs each.1)

  each_number : (f : ℕ → A) (first count : ℕ) → ((number : ℕ) → first ≤ number → number < first + count → Holds (f number))
      → AllByRecursion Holds (map f (range_with_len first count))
  each_number f first zero holds = tt
  each_number f first (suc count) holds = (
    holds first (omega arith) (omega arith),
    each_number f (first + 1) count (λ number low high. holds number (omega arith) (omega arith)),
  )

abbrev ReadsJump : Condition → ℤ → Type 0
ReadsJump condition displacement = ReadsRow (rows.ShortJump condition displacement)

short_jumps : (condition : Condition) → AllByRecursion ReadsRow (map (λ displacement. rows.ShortJump condition displacement) displacements)
short_jumps condition =
    each_map ReadsRow (λ displacement. rows.ShortJump condition displacement) displacements
    (each_append (ReadsJump condition) (map (λ words. pos words) (range_with_len 0 64)) (map (λ words. negsuc words) (range_with_len 0 64))
    (each_number (ReadsJump condition) (λ words. pos words) 0 64 (λ words low high. reads_forward condition words (omega arith)))
    (each_number (ReadsJump condition) (λ words. negsuc words) 0 64 (λ words low high. reads_backward condition words (omega arith))))

-- The rows of the numbers from 0 on.
read : (row : ℕ → Row) (count : ℕ) → ((n : ℕ) → n < count → ReadsRow (row n))
    → AllByRecursion ReadsRow (map row (range_with_len 0 count))
read row count reads = each_number ReadsRow row 0 count (λ n low high. reads n (omega arith))

-- A jump whose second word is missing is CON.
long_jump : (low_byte : ℕ) → low_byte < 256 → ReadsRow (rows.LongJump low_byte)
unfolding number_of
long_jump low_byte inside = reads_constant (low_byte * 4 + 1) (omega arith)

-- The rows of registers of memory, and the single words.
others : AllByRecursion (AllByRecursion ReadsRow) (drop 11 families)
unfolding singles takers digits number_of
others = assumption

-- What is true of a family, and what is true of the families after it.
also : {P Q : Type 0} → P → Q → P × Q
also first behind = (first, behind)

listed : AllByRecursion ReadsRow listed_rows
unfolding listed_rows singles takers digits
listed =
    let arithmetic = each_flat_map ReadsRow (λ operation. map (λ field. rows.Arithmetic operation field) fields) operations
    (each_always _ operations (λ operation. each_map ReadsRow (λ field. rows.Arithmetic operation field) fields
    (each_always _ fields (λ field. reads_arithmetic operation field)))) in
    let long = each_number ReadsRow (λ n. rows.LongJump n) 0 256 (λ n low high. long_jump n (omega arith)) in
    let cleared = read (λ n. rows.ClearStatus n) 14 (reads_number (codes "CLRF") 14 (λ n. rows.ClearStatus n) (λ word. assumption) refl) in
    let set = read (λ n. rows.SetStatus n) 14 (reads_number (codes "SETF") 14 (λ n. rows.SetStatus n) (λ word. assumption) refl) in
    let tested = read (λ n. rows.TestStatus n) 14 (reads_number (codes "?FSET") 14 (λ n. rows.TestStatus n) (λ word. assumption) refl) in
    let pointed = read (λ n. rows.TestPointer n) 14 (reads_number (codes "?R=") 14 (λ n. rows.TestPointer n) (λ word. assumption) refl) in
    let pointer = read (λ n. rows.SetPointer n) 14 (reads_number (codes "R=") 14 (λ n. rows.SetPointer n) (λ word. assumption) refl) in
    let rotated = read (λ n. rows.RotateRight n) 14 (reads_number (codes "RCR") 14 (λ n. rows.RotateRight n) (λ word. assumption) refl) in
    let loaded = read (λ n. rows.LoadDigit n) 16 (reads_number (codes "LD@R") 16 (λ n. rows.LoadDigit n) (λ word. assumption) refl) in
    each_flat_map ReadsRow (λ family. family) families
    (also arithmetic (also long (also (short_jumps NoCarry) (also (short_jumps Carry) (also cleared (also set (also tested
    (also pointed (also pointer (also rotated (also loaded others)))))))))))

in_table : (some : List Row) (word : ℕ) → AllByRecursion ReadsRow some → ReadsRow (rows.Constant word)
    → ReadsRow (row_in (with_numbers some) word)
in_table [] word each none = none
in_table (row ∷ some) word each none =
    cond_both (number_of row == word) row (row_in (with_numbers some) word) ReadsRow (λ _. each.0) (λ _. in_table some word each.1 none)

constant : (word : ℕ) → word < 1024 → ReadsRow (rows.Constant word)
unfolding number_of
constant word inside = reads_constant word inside

reads_row : (word : ℕ) → word < 1024 → ReadsRow (row_of word)
unfolding row_of word_table
reads_row word inside = in_table listed_rows word listed (constant word inside)

-- The line of a single word is read as the word.
pub reads_word : WordOfRow → (word : ℕ) → word < 1024 → Reads (row_text (row_of word)) (word ∷ [])
reads_word round_trip word inside =
    subst (λ (number : ℕ). Reads (row_text (row_of word)) (number ∷ [])) (round_trip word inside) (reads_row word inside)
