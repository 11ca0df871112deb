-- The line of each row, family by family, is read as the word of the row.
use Rattle.std.proofs.Common.{◌≡◌, ℕ, ◌+◌, ◌<◌, pos, negsuc, Bool, true, false, ◌&&◌, nat_lt, ◌==◌, List, [], ◌∷◌, ◌++◌, length}
use Rattle.std.proofs.Common.{Option, Some, None, refl, ap, arith}
use Rattle.std.specs.Prelude.{codes}
use Rattle.std.specs.Fmt.{decimal}
use Rattle.std.specs.List.{list_all}
use Rattle.std.proofs.lemmas.Bool.{agree_below, agree_below_at, and_parts, ltb-true, eqb-true}
use Rattle.h41_digits.specs.Register.{hexadecimal_text}
use Rattle.h41_fields.specs.declared.field.Field.{Field}
use Rattle.h41_fields.specs.declared.field.Field.TheVariants.{AtPointer}
use Rattle.h41_words.specs.declared.operation.Operation.{Operation}
use Rattle.h41_words.specs.declared.rows.Condition.{Condition}
use Rattle.h41_words.specs.declared.rows.Row.{Row}
use Rattle.h41_words.specs.declared.rows.Row.TheVariants.{Arithmetic, ShortJump, LoadImmediate}
use Rattle.h41_words.specs.declared.second_word.LongJumpKind.{LongJumpKind}
use Rattle.h41_words.specs.Mnemonics.{field_text, operation_text, long_jump_text, short_jump_text, displacement_text, row_text}
use Rattle.h41_words.specs.WordTable.{number_of}
use Rattle.h41_asm.specs.Operands.{field_in, number_in}
use Rattle.h41_asm.specs.Statements.{is_in_reach, long_jump_words, one_word, value_statement, takes_number, takes_field, takes_displacement}
use Rattle.h41_asm.specs.Statements.{takes_address, takes_immediate, takes_constant}
use Rattle.h41_lines.proofs.HexadecimalDigits.{length-hexadecimal}
use Rattle.h41_laws_words.proofs.ListingNumbers.{solid_hexadecimal, read_address, read_word, read_forward, read_backward}
use Rattle.h41_laws_words.proofs.ListingTexts.{Reads, IsTaken, IsOperand, reads_operand, constant_taken, immediate_taken, long_jump_taken}
use Rattle.h41_laws_words.proofs.ListingTexts.{short_jump_taken, operation_taken}
use Rattle.h41_laws_words.proofs.ListingWords.{is_solid}

-- Hexadecimal digits as operands.
hexadecimal_operand : (count number : ℕ) → 0 < count → IsOperand (hexadecimal_text count number)
hexadecimal_operand count number some =
    record { some = omega (arith, length-hexadecimal count number); solid = solid_hexadecimal count number }

pub reads_constant : (word : ℕ) → word < 1024 → Reads (codes "CON" ++ 32 ∷ hexadecimal_text 3 word) (word ∷ [])
reads_constant word inside =
    reads_operand (codes "CON") (hexadecimal_text 3 word) (word ∷ []) takes_constant (constant_taken (hexadecimal_text 3 word))
    (hexadecimal_operand 3 word (omega arith)) (rw (read_word word inside) refl)

pub reads_immediate : (word : ℕ) → word < 1024 → Reads (codes "LDI" ++ 32 ∷ hexadecimal_text 3 word) (number_of LoadImmediate ∷ word ∷ [])
reads_immediate word inside =
    reads_operand (codes "LDI") (hexadecimal_text 3 word) (number_of LoadImmediate ∷ word ∷ [])
    takes_immediate (immediate_taken (hexadecimal_text 3 word))
    (hexadecimal_operand 3 word (omega arith)) (rw (read_word word inside) refl)

pub reads_long_jump : (condition : Condition) (kind : LongJumpKind) (address : ℕ) → address < 0x10000
    → Reads (long_jump_text condition kind ++ 32 ∷ hexadecimal_text 4 address) (long_jump_words condition kind address)
reads_long_jump condition kind address inside =
    reads_operand (long_jump_text condition kind) (hexadecimal_text 4 address) (long_jump_words condition kind address)
    (takes_address condition kind) (long_jump_taken condition kind (hexadecimal_text 4 address))
    (hexadecimal_operand 4 address (omega arith)) (rw (read_address address inside) refl)

-- Short jumps, forward and backward.
pub reads_forward : (condition : Condition) (words : ℕ) → words < 64
    → Reads (row_text (ShortJump condition (pos words))) (number_of (ShortJump condition (pos words)) ∷ [])
reads_forward condition words inside =
    let text = displacement_text (pos words) in
    let near : is_in_reach (pos words) ≡ true = agree_below_at (λ n. is_in_reach (pos n)) (λ _. true) 64 words refl inside in
    reads_operand (short_jump_text condition) text (number_of (ShortJump condition (pos words)) ∷ [])
    (takes_displacement condition) (short_jump_taken condition text)
    (record { some = omega arith; solid = solid_hexadecimal 2 words }) (rw (read_forward words inside, near) refl)

pub reads_backward : (condition : Condition) (words : ℕ) → words < 64
    → Reads (row_text (ShortJump condition (negsuc words))) (number_of (ShortJump condition (negsuc words)) ∷ [])
reads_backward condition words inside =
    let text = displacement_text (negsuc words) in
    let near : is_in_reach (negsuc words) ≡ true = agree_below_at (λ n. is_in_reach (negsuc n)) (λ _. true) 64 words refl inside in
    reads_operand (short_jump_text condition) text (number_of (ShortJump condition (negsuc words)) ∷ [])
    (takes_displacement condition) (short_jump_taken condition text)
    (record { some = omega arith; solid = solid_hexadecimal 2 (words + 1) }) (rw (read_backward words inside, near) refl)

-- Operations on a field.
field_operand : (field : Field) → IsOperand (field_text field)
field_operand AtPointer = record { some = omega arith; solid = refl }
field_operand field = record { some = omega arith; solid = refl }

read_field : (field : Field) → field_in (field_text field) ≡ Some field
read_field AtPointer = refl
read_field field = refl

pub reads_arithmetic : (operation : Operation) (field : Field)
    → Reads (row_text (Arithmetic operation field)) (number_of (Arithmetic operation field) ∷ [])
reads_arithmetic operation field =
    reads_operand (operation_text operation) (field_text field) (number_of (Arithmetic operation field) ∷ [])
    (takes_field operation) (operation_taken operation (field_text field))
    (field_operand field) (rw (read_field field) refl)

-- Whether a number is read from its decimal text, as one of this many numbers from the least on.
abbrev pub is_just : ℕ → Option ℕ → Bool
is_just number None = false
is_just number (Some other) = other == number

just : (number : ℕ) (read : Option ℕ) → is_just number read ≡ true → read ≡ Some number
just number None is = let no : false ≡ true = is in cc
just number (Some other) is = ap Some (eqb-true other number is)

abbrev pub is_read : ℕ → ℕ → Bool
is_read count n = nat_lt 0 (length (decimal n)) && (list_all is_solid (decimal n) && is_just n (number_in 0 count (decimal n)))

-- A mnemonic that takes one of these numbers, from 0 on.
pub reads_number : (name : List ℕ) (count : ℕ) (row : ℕ → Row) → ((word : List ℕ) → IsTaken name (takes_number 0 count row) word)
    → agree_below (is_read count) (λ _. true) count ≡ true → (n : ℕ) → n < count → Reads (name ++ 32 ∷ decimal n) (number_of (row n) ∷ [])
reads_number name count row taken all n inside =
    let parts = and_parts (nat_lt 0 (length (decimal n))) _ (agree_below_at (is_read count) (λ _. true) count n all inside) in
    let more = and_parts (list_all is_solid (decimal n)) _ parts.1 in
    reads_operand name (decimal n) (number_of (row n) ∷ []) (takes_number 0 count row) (taken (decimal n))
    (record { some = ltb-true _ _ parts.0; solid = more.0 }) (ap (value_statement (λ n. one_word (row n))) (just n _ more.1))
