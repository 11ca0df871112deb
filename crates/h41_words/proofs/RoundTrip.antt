-- The word table round trip: a word's row has that word's number, and the row of a row's number is that row.
use Rattle.std.specs.Prelude.{◌≡◌, ℕ, zero, suc, ◌+◌, ◌<◌, ◌≤◌, ℤ, pos, negsuc, ◌≤ℤ◌, Bool, true, false, not, ◌&&◌, List, [], ◌∷◌, map}
use Rattle.std.specs.Prelude.{length, Contains, ◌==◌, refl}
use Rattle.std.specs.List.{flat_map, range_with_len, list_any, list_all}
use Rattle.std.proofs.Math.Dec.{leb→le}
use Rattle.std.proofs.Common.{sym, ◌∙◌, ap, arith, get_or}
use Rattle.std.proofs.lemmas.Bool.{cond_both, cond-true, cond-false, eqb-true, eq-eqb, or_parts, and_parts, not-true}
use Rattle.std.proofs.lemmas.List.Elements.{Contains-append_left, Contains-append_right}
use Rattle.h41_fields.specs.declared.field.Field.{Field}
use Rattle.h41_fields.specs.declared.field.Field.TheVariants.{AtPointer}
use Rattle.h41_fields.specs.declared.field.Pointer.TheVariants.{P, Q}
use Rattle.h41_words.specs.declared.operation.Operation.{Operation}
use Rattle.h41_words.specs.declared.operation.Operation.TheVariants.{ClearA}
use Rattle.h41_words.specs.declared.rows.Row.{Row}
use Rattle.h41_words.specs.declared.rows.Row.TheVariants.{Arithmetic, LongJump, ShortJump, ClearStatus, SetStatus, TestStatus, TestPointer}
use Rattle.h41_words.specs.declared.rows.Row.TheVariants.{SetPointer, RotateRight, LoadDigit, Write, Read, Constant, EnableBank, ReturnIf}
use Rattle.h41_words.specs.declared.rows.Row.TheVariants.{SelectPointer, Transfer}
use Rattle.h41_words.specs.declared.rows.RegisterTransfer.{RegisterTransfer}
use Rattle.h41_words.specs.declared.rows.RegisterTransfer.TheVariants.{CToG}
use Rattle.h41_words.specs.declared.rows.Bank.TheVariants.{First, Second, Third, Fourth}
use Rattle.h41_words.specs.declared.rows.Condition.{Condition}
use Rattle.h41_words.specs.declared.rows.Condition.TheVariants.{NoCarry, Carry}
use Rattle.h41_words.specs.Listing.{fields, operations, displacements, families, listed_rows}
use Rattle.h41_words.specs.WordTable.{field_number, operation_number, number_of, with_numbers, row_in, row_of, word_table, IsRow, WordOfRow}
use Rattle.h41_words.specs.WordTable.{OneWordOfRow}
use Rattle.h41_words.specs.Unassigned.{unassigned_words}
use Rattle.h41_words.proofs.Members.{in_flat_map, in_map, in_range, at_member}

-- The row that a table gives for a word has the number of that word.
row_in_number : (rows : List Row) (word : ℕ) → number_of (row_in (with_numbers rows) word) ≡ word
unfolding number_of
row_in_number [] word = refl
row_in_number (row ∷ rows) word =
    cond_both (number_of row == word) row (row_in (with_numbers rows) word) (λ found. number_of found ≡ word)
    (λ same. eqb-true (number_of row) word same) (λ other. row_in_number rows word)

-- Whether no number occurs twice in a list.
abbrev are_distinct : List ℕ → Bool
are_distinct [] = true
are_distinct (number ∷ numbers) = not (list_any (λ other. number == other) numbers) && are_distinct numbers

-- The numbers of the listing are distinct.
listed_distinct : are_distinct (map number_of listed_rows) ≡ true
unfolding number_of listed_rows
listed_distinct = refl

-- A number that no row of a list has is not that of its k-th row.
absent : (number k : ℕ) (row : Row) (rows : List Row) → k < length rows → get_or rows k row ≡ row
    → list_any (λ other. number == other) (map number_of rows) ≡ false → (number == number_of row) ≡ false
absent number k row [] inside same none = absurd (omega arith)
absent number zero row (first ∷ rest) inside same none =
    sym (ap (λ (r : Row). number == number_of r) same) ∙ (or_parts (number == number_of first) _ none).0
absent number (suc k) row (first ∷ rest) inside same none =
    absent number k row rest (omega arith) same (or_parts (number == number_of first) _ none).1

-- In a table with distinct numbers, each row is found by its number.
row_in_at : (k : ℕ) (row : Row) (rows : List Row) → k < length rows → get_or rows k row ≡ row
    → are_distinct (map number_of rows) ≡ true → row_in (with_numbers rows) (number_of row) ≡ row
row_in_at k row [] inside same distinct = absurd (omega arith)
row_in_at zero row (first ∷ rest) inside same distinct =
    cond-true (number_of first == number_of row) first _ (eq-eqb _ _ (ap number_of same)) ∙ same
row_in_at (suc k) row (first ∷ rest) inside same distinct =
    let parts =
    and_parts (not (list_any (λ other. number_of first == other) (map number_of rest))) (are_distinct (map number_of rest)) distinct in
    cond-false (number_of first == number_of row) first _ (absent (number_of first) k row rest (omega arith) same (not-true _ parts.0))
    ∙ row_in_at k row rest (omega arith) same parts.1

-- For a word that has no row in the table, CON is found.
row_in_none : (word : ℕ) (rows : List Row) → list_any (λ other. other == word) (map number_of rows) ≡ false
    → row_in (with_numbers rows) word ≡ Constant word
row_in_none word [] none = refl
row_in_none word (first ∷ rest) none =
    let parts = or_parts (number_of first == word) (list_any (λ other. other == word) (map number_of rest)) none in
    cond-false (number_of first == word) first _ parts.0 ∙ row_in_none word rest parts.1

-- No row of the listing has an unassigned word.
none_unassigned : list_all (λ word. not (list_any (λ other. other == word) (map number_of listed_rows))) unassigned_words ≡ true
unfolding number_of listed_rows unassigned_words
none_unassigned = refl

constant : (number : ℕ) → Contains unassigned_words number → row_of (number_of (Constant number)) ≡ Constant number
unfolding row_of word_table number_of
constant number member =
    row_in_none number listed_rows (not-true _ (at_member
    (λ word. not (list_any (λ other. other == word) (map number_of listed_rows))) unassigned_words number none_unassigned member))

-- Each row of the listing is the row of its word.
listed : (row : Row) → Contains listed_rows row → row_of (number_of row) ≡ row
unfolding row_of word_table
listed row at = row_in_at at.0 row listed_rows at.1 at.2 listed_distinct

-- A row of the k-th family is the row of its word.
in_family : (k : ℕ) (row : Row) (family : List Row) → k < length families → get_or families k family ≡ family → Contains family row
    → row_of (number_of row) ≡ row
unfolding listed_rows
in_family k row family inside same member = listed row (in_flat_map (λ rows. rows) k family row families inside same member)

-- A row of a family with a number as its operand.
in_numbers : (k first count number : ℕ) (row : ℕ → Row) → k < length families
    → get_or families k (map row (range_with_len first count)) ≡ map row (range_with_len first count)
    → first ≤ number → number < first + count → row_of (number_of (row number)) ≡ row number
in_numbers k first count number row inside same low high =
    in_family k (row number) (map row (range_with_len first count)) inside same
    (in_map row number (range_with_len first count) (in_range first count number low high))

-- Each operation, and each field, is in its list.
in_operations : (operation : Operation) → Contains operations operation
in_operations ClearA = (0, (omega arith), refl)
in_operations operation = (operation_number operation, (omega arith), refl)

in_fields : (field : Field) → Contains fields field
in_fields AtPointer = (0, (omega arith), refl)
in_fields field = (field_number field, (omega arith), refl)

arithmetic : (operation : Operation) (field : Field) → row_of (number_of (Arithmetic operation field)) ≡ Arithmetic operation field
arithmetic operation field =
    let at = in_operations operation in
    in_family 0 (Arithmetic operation field) (flat_map (λ o. map (λ f. Arithmetic o f) fields) operations) (omega arith) refl
    (in_flat_map (λ o. map (λ f. Arithmetic o f) fields) at.0 operation (Arithmetic operation field) operations at.1 at.2
    (in_map (λ f. Arithmetic operation f) field fields (in_fields field)))

-- A displacement of seven bits is one of the listing's.
in_displacements : (displacement : ℤ) → negsuc 63 ≤ℤ displacement → displacement ≤ℤ pos 63 → Contains displacements displacement
in_displacements (pos words) low high =
    Contains-append_left (map (λ w. pos w) (range_with_len 0 64)) (map (λ w. negsuc w) (range_with_len 0 64)) (pos words)
    (in_map (λ w. pos w) words (range_with_len 0 64) (in_range 0 64 words (omega arith) (omega (arith, leb→le words 63 high.le))))
in_displacements (negsuc words) low high =
    Contains-append_right (map (λ w. pos w) (range_with_len 0 64)) (map (λ w. negsuc w) (range_with_len 0 64)) (negsuc words)
    (in_map (λ w. negsuc w) words (range_with_len 0 64) (in_range 0 64 words (omega arith) (omega (arith, leb→le words 63 low.le))))

short_jump : (condition : Condition) (displacement : ℤ) → negsuc 63 ≤ℤ displacement → displacement ≤ℤ pos 63
    → row_of (number_of (ShortJump condition displacement)) ≡ ShortJump condition displacement
short_jump NoCarry displacement low high =
    in_family 2 (ShortJump NoCarry displacement) (map (λ d. ShortJump NoCarry d) displacements) (omega arith) refl
    (in_map (λ d. ShortJump NoCarry d) displacement displacements (in_displacements displacement low high))
short_jump Carry displacement low high =
    in_family 3 (ShortJump Carry displacement) (map (λ d. ShortJump Carry d) displacements) (omega arith) refl
    (in_map (λ d. ShortJump Carry d) displacement displacements (in_displacements displacement low high))

-- A copy or an exchange is the row of its word.
transfer : (which : RegisterTransfer) → row_of (number_of (Transfer which)) ≡ Transfer which
unfolding number_of row_of word_table listed_rows
transfer CToG = refl
transfer which = refl

-- The other single words are the rows of their words, and so are all rows.
pub row_of_number : (row : Row) → IsRow row → row_of (number_of row) ≡ row
unfolding number_of row_of word_table listed_rows
row_of_number (Arithmetic operation field) valid = arithmetic operation field
row_of_number (LongJump low_byte) valid = in_numbers 1 0 256 low_byte (λ n. LongJump n) (omega arith) refl (omega arith) (omega arith)
row_of_number (ShortJump condition displacement) valid = short_jump condition displacement valid.0 valid.1
row_of_number (ClearStatus bit) valid = in_numbers 4 0 14 bit (λ n. ClearStatus n) (omega arith) refl (omega arith) (omega arith)
row_of_number (SetStatus bit) valid = in_numbers 5 0 14 bit (λ n. SetStatus n) (omega arith) refl (omega arith) (omega arith)
row_of_number (TestStatus bit) valid = in_numbers 6 0 14 bit (λ n. TestStatus n) (omega arith) refl (omega arith) (omega arith)
row_of_number (TestPointer place) valid = in_numbers 7 0 14 place (λ n. TestPointer n) (omega arith) refl (omega arith) (omega arith)
row_of_number (SetPointer place) valid = in_numbers 8 0 14 place (λ n. SetPointer n) (omega arith) refl (omega arith) (omega arith)
row_of_number (RotateRight digits) valid = in_numbers 9 0 14 digits (λ n. RotateRight n) (omega arith) refl (omega arith) (omega arith)
row_of_number (LoadDigit digit) valid = in_numbers 10 0 16 digit (λ n. LoadDigit n) (omega arith) refl (omega arith) (omega arith)
row_of_number (Write register) valid = in_numbers 11 0 16 register (λ n. Write n) (omega arith) refl (omega arith) (omega arith)
row_of_number (Read register) valid = in_numbers 12 1 15 register (λ n. Read n) (omega arith) refl (omega arith) (omega arith)
row_of_number (Constant number) valid = constant number valid
row_of_number (Transfer which) valid = transfer which
row_of_number (EnableBank First) valid = refl
row_of_number (EnableBank Second) valid = refl
row_of_number (EnableBank Third) valid = refl
row_of_number (EnableBank Fourth) valid = refl
row_of_number (SelectPointer P) valid = refl
row_of_number (SelectPointer Q) valid = refl
row_of_number (ReturnIf NoCarry) valid = refl
row_of_number (ReturnIf Carry) valid = refl
row_of_number row valid = refl

-- A row with the number of a word is the row of this word.
pub is_row_of : (row : Row) (word : ℕ) → IsRow row → number_of row ≡ word → row ≡ row_of word
is_row_of row word valid same = sym (row_of_number row valid) ∙ ap row_of same

-- The row of a word has the word's number.
pub number_of_row : WordOfRow
unfolding row_of word_table
number_of_row word inside = row_in_number listed_rows word

-- Each row is the row of one word.
pub one_word_of_row : OneWordOfRow
unfolding row_of word_table
one_word_of_row row valid word =
    ((λ same. sym (row_in_number listed_rows word) ∙ ap number_of same), (λ same. ap row_of same ∙ row_of_number row valid))
