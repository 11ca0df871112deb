-- The statement of a source line, which follows its label: the words of an instruction or of a
-- directive, some of which depend on the address of a label; or the error because of which it
-- cannot be read. Instructions are those of this project's table of mnemonics; the directives CON,
-- NAME, ENTRY and FOCAL and the errors are its own, too.
use Rattle.std.specs.Prelude.{ℕ, ◌+◌, ◌/◌, ◌%◌, ℤ, Bool, ◌&&◌, List, [], ◌∷◌, ◌++◌, length, drop}
use Rattle.std.specs.Prelude.{map, filter, find, reverse, ◌==◌, is_none, if◌then◌else◌, Option}
use Rattle.std.specs.Prelude.{Some, None, option_map, Result, Ok, Err, bytes_eq, codes, int_le}
use Rattle.std.specs.List.{list_any, starts_with}
use Rattle.std.specs.Option.{ok_or}
use Rattle.h41_words.specs.declared.operation.Operation.{Operation}
use Rattle.h41_words.specs.declared.rows.Condition.{Condition}
use Rattle.h41_words.specs.declared.rows.Condition.TheVariants.{NoCarry, Carry}
use Rattle.h41_words.specs.declared.rows.Row.{Row}
use Rattle.h41_words.specs.declared.rows.Row.TheVariants.{Arithmetic, LongJump, ShortJump}
use Rattle.h41_words.specs.declared.rows.Row.TheVariants.{ClearStatus, SetStatus, TestStatus}
use Rattle.h41_words.specs.declared.rows.Row.TheVariants.{TestPointer, SetPointer, RotateRight}
use Rattle.h41_words.specs.declared.rows.Row.TheVariants.{LoadDigit, Write, Read, LoadImmediate}
use Rattle.h41_words.specs.declared.second_word.LongJumpKind.{LongJumpKind}
use Rattle.h41_words.specs.declared.second_word.LongJumpKind.TheVariants.{Execute, Go}
use Rattle.h41_words.specs.Counts.{status_bit_count, place_count, digit_count, block_register_count}
use Rattle.h41_words.specs.Counts.{least_displacement, greatest_displacement}
use Rattle.h41_words.specs.Mnemonics.{mnemonic, operand, operation_text, long_jump_text}
use Rattle.h41_words.specs.Mnemonics.{short_jump_text}
use Rattle.h41_words.specs.SecondWord.{second_number_of}
use Rattle.h41_words.specs.Listing.{operations, single_rows}
use Rattle.h41_words.specs.WordTable.{number_of}
use Rattle.h41_asm.specs.declared.fault.SourceFault.{SourceFault}
use Rattle.h41_asm.specs.declared.fault.SourceFault.TheVariants.{BadLine, BadOperand}
use Rattle.h41_asm.specs.Operands.{address_in, displacement_in, field_in, number_in, text_in}
use Rattle.h41_asm.specs.Operands.{word_in}
use Rattle.h41_asm.specs.SourceLines.{reference_in, words_of}

-- The statement of a line.
pub data Statement : Type 0 where
  -- These words, whatever the addresses of the labels are.
  Words : List ℕ → Statement
  -- A short jump by a displacement that no word has.
  OutOfReach : Statement
  -- A jump by address, and a short jump, to a label.
  LongJumpTo : Condition → LongJumpKind → List ℕ → Statement
  ShortJumpTo : Condition → List ℕ → Statement
  -- The two words of the table entry of a function that begins at a label; the first word has these
  -- bits, too.
  EntryAt : ℕ → List ℕ → Statement

-- The number of words of a statement.
abbrev pub statement_length : Statement → ℕ
statement_length (Words words) = length words
statement_length OutOfReach = 1
statement_length (LongJumpTo condition kind name) = 2
statement_length (ShortJumpTo condition name) = 1
statement_length (EntryAt bits name) = 2

-- The word of a row as a statement.
abbrev pub one_word : Row → Statement
one_word row = Words (number_of row ∷ [])

-- The two words of a jump to an address.
abbrev pub long_jump_words : Condition → LongJumpKind → ℕ → List ℕ
long_jump_words condition kind address =
    number_of (LongJump (address % 256))
    ∷ second_number_of (record { condition = condition; kind = kind; high_byte = address / 256 })
    ∷ []

-- Whether a short jump can have this displacement.
abbrev pub is_in_reach : ℤ → Bool
is_in_reach displacement =
    int_le least_displacement displacement && int_le displacement greatest_displacement

-- A short jump by a displacement.
abbrev pub short_jump_by : Condition → ℤ → Statement
short_jump_by condition displacement =
    if is_in_reach displacement then one_word (ShortJump condition displacement) else OutOfReach

-- The words of characters with bit 7 set in the first.
abbrev pub with_mark : List ℕ → List ℕ
with_mark [] = []
with_mark (last ∷ others) = (last + 0x80) ∷ others

-- The words of a name: a word for each character, the last character first and with bit 7 set. A
-- character is its code modulo 64.
abbrev pub name_words : List ℕ → List ℕ
name_words text = with_mark (reverse (map (λ byte. byte % 64) text))

-- What a mnemonic or a directive takes as its one operand: it maps the operand's word to a
-- statement, or to none if the word is no such operand.
abbrev pub Taking : Type 0
Taking = List ℕ → Option Statement

-- The statement of the value of a word, if it has one.
abbrev pub value_statement : {T : Type 0} → (T → Statement) → Option T → Option Statement
value_statement says None = None
value_statement says (Some value) = Some (says value)

-- The first of two statements, or the second if there is no first.
abbrev pub or_else : Option Statement → Option Statement → Option Statement
or_else None other = other
or_else (Some statement) other = Some statement

-- The operand of an arithmetic instruction: a field.
abbrev pub takes_field : Operation → Taking
takes_field operation word = value_statement (λ field. one_word (Arithmetic operation field))
    (field_in word)

-- An operand that is one of this many decimal numbers from the least on.
abbrev pub takes_number : ℕ → ℕ → (ℕ → Row) → Taking
takes_number least count row word =
    value_statement (λ number. one_word (row number)) (number_in least count word)

-- The operand of a jump by address: an address or a label.
abbrev pub takes_address : Condition → LongJumpKind → Taking
takes_address condition kind word =
    or_else (value_statement (λ address. Words (long_jump_words condition kind address))
    (address_in word))
    (value_statement (λ name. LongJumpTo condition kind name) (reference_in word))

-- The operand of a short jump: a displacement or a label.
abbrev pub takes_displacement : Condition → Taking
takes_displacement condition word =
    or_else (value_statement (short_jump_by condition) (displacement_in word))
    (value_statement (λ name. ShortJumpTo condition name) (reference_in word))

-- The operand of LDI: a word, which is the second of the instruction.
abbrev pub takes_immediate : Taking
takes_immediate word = value_statement (λ number. Words (number_of LoadImmediate ∷ number ∷ []))
    (word_in word)

-- The operand of CON: a word.
abbrev pub takes_constant : Taking
takes_constant word = value_statement (λ number. Words (number ∷ [])) (word_in word)

-- The operand of NAME: a text.
abbrev pub takes_name : Taking
takes_name word = value_statement (λ text. Words (name_words text)) (text_in word)

-- The operand of ENTRY and FOCAL: a label.
abbrev pub takes_entry : ℕ → Taking
takes_entry bits word = value_statement (λ name. EntryAt bits name) (reference_in word)

-- The instructions and directives with an operand: the mnemonic of each, and the operand that it
-- takes.
unfoldable pub takers : List (List ℕ × Taking)
takers =
    map (λ operation. (operation_text operation, takes_field operation)) operations
    ++ (codes "CLRF", takes_number 0 status_bit_count (λ n. ClearStatus n))
    ∷ (codes "SETF", takes_number 0 status_bit_count (λ n. SetStatus n))
    ∷ (codes "?FSET", takes_number 0 status_bit_count (λ n. TestStatus n))
    ∷ (codes "?R=", takes_number 0 place_count (λ n. TestPointer n))
    ∷ (codes "R=", takes_number 0 place_count (λ n. SetPointer n))
    ∷ (codes "RCR", takes_number 0 place_count (λ n. RotateRight n))
    ∷ (codes "LD@R", takes_number 0 digit_count (λ n. LoadDigit n))
    ∷ (codes "WRIT", takes_number 0 block_register_count (λ n. Write n))
    ∷ (codes "READ", takes_number 1 15 (λ n. Read n))
    ∷ (codes "LDI", takes_immediate)
    ∷ (codes "CON", takes_constant)
    ∷ (long_jump_text NoCarry Execute, takes_address NoCarry Execute)
    ∷ (long_jump_text Carry Execute, takes_address Carry Execute)
    ∷ (long_jump_text NoCarry Go, takes_address NoCarry Go)
    ∷ (long_jump_text Carry Go, takes_address Carry Go)
    ∷ (short_jump_text NoCarry, takes_displacement NoCarry)
    ∷ (short_jump_text Carry, takes_displacement Carry)
    ∷ (codes "NAME", takes_name)
    ∷ (codes "ENTRY", takes_entry 0)
    ∷ (codes "FOCAL", takes_entry 0x200)
    ∷ []

-- The instructions without an operand, and the row of each.
unfoldable pub singles : List (List ℕ × Row)
singles = map (λ row. (mnemonic row, row)) (filter (λ row. is_none (operand row)) single_rows)

-- Whether words begin with a mnemonic.
abbrev pub begins : List (List ℕ) → List ℕ → Bool
begins words name = starts_with (λ part word. bytes_eq word part) words (words_of name)

-- The words after a mnemonic.
abbrev pub words_behind : List ℕ → List (List ℕ) → List (List ℕ)
words_behind name words = drop (length (words_of name)) words

-- Whether words are a mnemonic and nothing else.
abbrev pub is_whole : List (List ℕ) → List ℕ → Bool
is_whole words name = begins words name && length (words_behind name words) == 0

-- The statement of the words after a mnemonic that takes an operand: there must be exactly one
-- word.
abbrev pub statement_by : Taking → List (List ℕ) → Result Statement SourceFault
statement_by takes [] = Err BadOperand
statement_by takes (word ∷ []) = ok_or (takes word) BadOperand
statement_by takes (word ∷ other ∷ others) = Err BadOperand

-- The row of the first mnemonic in a list that the words are.
abbrev pub single_among : List (List ℕ × Row) → List (List ℕ) → Option Row
single_among some words =
    option_map (λ single. single.1) (find (λ single. is_whole words single.0) some)

-- Whether words begin with a mnemonic of a list.
abbrev pub is_begun : List (List ℕ × Row) → List (List ℕ) → Bool
is_begun some words = list_any (λ single. begins words single.0) some

-- The statement of the first mnemonic in a list with which the words begin, if there is one.
abbrev pub taken_among : List (List ℕ × Taking) → List (List ℕ)
    → Option (Result Statement SourceFault)
taken_among some words =
    option_map (λ taker. statement_by taker.1 (words_behind taker.0 words))
    (find (λ taker. begins words taker.0) some)

-- The error of words that begin with no mnemonic that takes an operand: BadOperand (31) if they
-- begin with one that takes none, otherwise BadLine (30).
abbrev pub unread_fault : List (List ℕ) → SourceFault
unread_fault words = if is_begun singles words then BadOperand else BadLine

-- The statement that was found, or that error.
abbrev pub taken_or_unread : Option (Result Statement SourceFault) → List (List ℕ)
    → Result Statement SourceFault
taken_or_unread (Some read) words = read
taken_or_unread None words = Err (unread_fault words)

-- The statement of words that are not a mnemonic without an operand.
abbrev pub not_single : List (List ℕ) → Result Statement SourceFault
not_single words = taken_or_unread (taken_among takers words) words

-- The statement of a row that was found, or of words that are not a mnemonic without an operand.
abbrev pub single_or_not : Option Row → List (List ℕ) → Result Statement SourceFault
single_or_not (Some row) words = Ok (one_word row)
single_or_not None words = not_single words

-- The statement of the words after a label: nothing, a mnemonic without an operand, or one with an
-- operand. BadOperand (31): the mnemonic or directive is known, but an operand is missing, or there
-- are too many, or it does not take this one. BadLine (30) is every other error.
abbrev pub reading_of : List (List ℕ) → Result Statement SourceFault
reading_of [] = Ok (Words [])
reading_of (first ∷ others) = single_or_not (single_among singles (first ∷ others)) (first ∷ others)
