-- How many words a row takes: as many as its word.
use Rattle.std.specs.Prelude.{◌≡◌, ℕ, ◌+◌, ◌*◌, ◌%◌, ◌||◌, Contains, ◌==◌, refl}
use Rattle.std.proofs.Common.{sym, ◌∙◌, ap, arith}
use Rattle.std.proofs.lemmas.Bool.{ne_eqb, eq-eqb, or_from, or_left, cond-true, cond-false, eqb-true}
use Rattle.h41_words.specs.declared.rows.Row.{Row}
use Rattle.h41_words.specs.declared.rows.Row.TheVariants.{Arithmetic, LongJump, ShortJump, ClearStatus, SetStatus, TestStatus, TestPointer}
use Rattle.h41_words.specs.declared.rows.Row.TheVariants.{SetPointer, RotateRight, LoadDigit, Write, Read, Constant, Transfer, EnableBank}
use Rattle.h41_words.specs.declared.rows.Row.TheVariants.{SelectPointer, ReturnIf}
use Rattle.h41_words.specs.declared.rows.RegisterTransfer.{RegisterTransfer}
use Rattle.h41_words.specs.declared.rows.RegisterTransfer.TheVariants.{CToG}
use Rattle.h41_words.specs.declared.rows.Bank.TheVariants.{First, Second, Third, Fourth}
use Rattle.h41_words.specs.declared.rows.Condition.TheVariants.{NoCarry, Carry}
use Rattle.h41_fields.specs.declared.field.Pointer.TheVariants.{P, Q}
use Rattle.h41_words.specs.WordTable.{number_of, mapped_line, operation_number, field_number, displacement_bits, condition_bit, word_at}
use Rattle.h41_words.specs.WordTable.{IsRow, length_of, words_of}
use Rattle.h41_words.specs.Unassigned.{unassigned_words}
use Rattle.h41_words.proofs.Members.{at_member}

one_word : (word rest : ℕ) → word % 4 ≡ rest → (rest ≡ 1 → ⊥) → (word ≡ 0x130 → ⊥) → 1 ≡ length_of word
unfolding length_of
one_word word rest same not_jump not_immediate =
    sym (cond-false (word % 4 == 1 || word == 0x130) 2 1
    (or_from (word % 4 == 1) (word == 0x130) (ne_eqb (word % 4) 1 (λ jump. not_jump (sym same ∙ jump))) (ne_eqb word 0x130 not_immediate)))

two_words : (word : ℕ) → word % 4 ≡ 1 → 2 ≡ length_of word
unfolding length_of
two_words word jump =
    sym (cond-true (word % 4 == 1 || word == 0x130) 2 1 (or_left (word % 4 == 1) (word == 0x130) (eq-eqb (word % 4) 1 jump)))

-- A word of a column is no jump, and LDI is in column 30.
in_column : (row column : ℕ) → column % 4 ≡ 0 → column % 64 ≡ column → (column ≡ 0x30 → ⊥) → 1 ≡ length_of (word_at row column)
in_column row column low six not_30 = one_word (word_at row column) 0 (omega arith) (λ e. omega (arith, e)) (λ e. omega (arith, e, not_30))

unassigned : (number : ℕ) → Contains unassigned_words number → length_of number ≡ 1
unfolding length_of unassigned_words
unassigned number at = eqb-true (length_of number) 1 (at_member (λ word. length_of word == 1) unassigned_words number refl at)

transfer : (which : RegisterTransfer) → words_of (Transfer which) ≡ length_of (number_of (Transfer which))
unfolding number_of length_of
transfer CToG = refl
transfer which = refl

words_of_number : (row : Row) → IsRow row → words_of row ≡ length_of (number_of row)
unfolding number_of length_of
words_of_number (Arithmetic operation field) valid =
    one_word (operation_number operation * 32 + field_number field * 4 + 2) 2 (omega arith) (λ e. omega (arith, e)) (λ e. omega (arith, e))
words_of_number (LongJump low_byte) valid = two_words (low_byte * 4 + 1) (omega arith)
words_of_number (ShortJump condition displacement) valid =
    one_word (displacement_bits displacement * 8 + condition_bit condition * 4 + 3)
    3 (omega arith) (λ e. omega (arith, e)) (λ e. omega (arith, e))
words_of_number (ClearStatus bit) valid = in_column (mapped_line bit) 0x04 refl refl (λ e. omega (arith, e))
words_of_number (SetStatus bit) valid = in_column (mapped_line bit) 0x08 refl refl (λ e. omega (arith, e))
words_of_number (TestStatus bit) valid = in_column (mapped_line bit) 0x0C refl refl (λ e. omega (arith, e))
words_of_number (TestPointer place) valid = in_column (mapped_line place) 0x14 refl refl (λ e. omega (arith, e))
words_of_number (SetPointer place) valid = in_column (mapped_line place) 0x1C refl refl (λ e. omega (arith, e))
words_of_number (RotateRight digits) valid = in_column (mapped_line digits) 0x3C refl refl (λ e. omega (arith, e))
words_of_number (LoadDigit digit) valid = in_column digit 0x10 refl refl (λ e. omega (arith, e))
words_of_number (Write register) valid = in_column register 0x28 refl refl (λ e. omega (arith, e))
words_of_number (Read register) valid = in_column register 0x38 refl refl (λ e. omega (arith, e))
words_of_number (Constant number) valid = sym (unassigned number valid)
words_of_number (Transfer which) valid = transfer which
words_of_number (EnableBank First) valid = refl
words_of_number (EnableBank Second) valid = refl
words_of_number (EnableBank Third) valid = refl
words_of_number (EnableBank Fourth) valid = refl
words_of_number (SelectPointer P) valid = refl
words_of_number (SelectPointer Q) valid = refl
words_of_number (ReturnIf NoCarry) valid = refl
words_of_number (ReturnIf Carry) valid = refl
words_of_number row valid = refl

-- A row with the number of a word has as many words as an instruction that begins with this word.
pub is_length_of : (row : Row) (word : ℕ) → IsRow row → number_of row ≡ word → words_of row ≡ length_of word
is_length_of row word valid same = words_of_number row valid ∙ ap length_of same
