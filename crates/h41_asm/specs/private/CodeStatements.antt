-- The meaning of the code's lines and statements, in terms of the definitions of a source.
use Rattle.std.specs.Prelude.{ℕ, ◌%◌, map, reverse, List, [], ◌∷◌, Option, Some, None, Result, Ok}
use Rattle.std.specs.Prelude.{Err}
use Rattle.std.specs.Borrow.{Bor}
use Rattle.std.specs.Option.{option_map}
use Rattle.h41_asm.specs.declared.fault.SourceFault.{SourceFault}
use Rattle.h41_asm.specs.declared.source.SourceLine as lines
use Rattle.h41_asm.specs.declared.statement.Statement as code
use Rattle.h41_asm.specs.declared.statement.Form as form
use Rattle.h41_asm.specs.declared.statement.Form.TheVariants as forms
use Rattle.h41_asm.specs.declared.words.SourceWords as rests
use Rattle.h41_asm.specs.declared.table.EntryKind as entry
use Rattle.h41_asm.specs.declared.table.EntryKind.TheVariants as kinds
use Rattle.h41_asm.specs.declared.table.Numbered as numbered
use Rattle.h41_asm.specs.declared.table.Numbered.TheVariants as numbers
use Rattle.h41_asm.specs.declared.table.Taking as table
use Rattle.h41_asm.specs.declared.table.Taking.TheVariants as takings
use Rattle.h41_asm.specs.SourceLines.{SourceLine, words_of}
use Rattle.h41_asm.specs.Statements.{Statement, Words, OutOfReach, LongJumpTo, ShortJumpTo, EntryAt}
use Rattle.h41_asm.specs.Statements.{Taking, name_words, takes_field, takes_number, takes_immediate}
use Rattle.h41_asm.specs.Statements.{takes_constant, takes_address, takes_displacement, takes_name}
use Rattle.h41_asm.specs.Statements.{takes_entry, statement_by}
use Rattle.h41_words.specs.Counts.{status_bit_count, place_count, digit_count, block_register_count}
use Rattle.h41_words.specs.declared.rows.Row.TheVariants.{ClearStatus, SetStatus, TestStatus}
use Rattle.h41_words.specs.declared.rows.Row.TheVariants.{TestPointer, SetPointer, RotateRight}
use Rattle.h41_words.specs.declared.rows.Row.TheVariants.{LoadDigit, Write, Read}

-- The bits of the first word of a table entry.
abbrev pub entry_bits : entry.EntryKind → ℕ
entry_bits kinds.Microcode = 0
entry_bits kinds.Keystroke = 0x200

-- The meaning of a form of the code with a name.
abbrev pub in_form : form.Form → List ℕ → Statement
in_form forms.Nothing name = Words []
in_form (forms.One word) name = Words (word ∷ [])
in_form (forms.Two first second) name = Words (first ∷ second ∷ [])
in_form forms.Name name = Words (name_words name)
in_form forms.OutOfReach name = OutOfReach
in_form (forms.LongJumpTo condition kind) name = LongJumpTo condition kind name
in_form (forms.ShortJumpTo condition) name = ShortJumpTo condition name
in_form (forms.EntryAt kind) name = EntryAt (entry_bits kind) name

-- The meaning of a statement of the code.
abbrev pub in_code : code.Statement → Statement
in_code statement = in_form statement.form statement.name.now

-- The meaning of what the code read of a line.
abbrev pub read_in_code : Result code.Statement SourceFault → Result Statement SourceFault
read_in_code (Ok statement) = Ok (in_code statement)
read_in_code (Err fault) = Err fault

-- The meaning of what the code found, if anything.
abbrev pub found_in_code : Option code.Statement → Option Statement
found_in_code None = None
found_in_code (Some statement) = Some (in_code statement)

-- The operand that an instruction with a number takes.
abbrev pub takes_numbered : numbered.Numbered → Taking
takes_numbered numbers.ClearStatus = takes_number 0 status_bit_count (λ n. ClearStatus n)
takes_numbered numbers.SetStatus = takes_number 0 status_bit_count (λ n. SetStatus n)
takes_numbered numbers.TestStatus = takes_number 0 status_bit_count (λ n. TestStatus n)
takes_numbered numbers.TestPointer = takes_number 0 place_count (λ n. TestPointer n)
takes_numbered numbers.SetPointer = takes_number 0 place_count (λ n. SetPointer n)
takes_numbered numbers.RotateRight = takes_number 0 place_count (λ n. RotateRight n)
takes_numbered numbers.LoadDigit = takes_number 0 digit_count (λ n. LoadDigit n)
takes_numbered numbers.Write = takes_number 0 block_register_count (λ n. Write n)
takes_numbered numbers.Read = takes_number 1 15 (λ n. Read n)

-- The operand that a mnemonic of the code takes.
abbrev pub takes_in_code : table.Taking → Taking
takes_in_code (takings.Field operation) = takes_field operation
takes_in_code (takings.Number numbered) = takes_numbered numbered
takes_in_code takings.Immediate = takes_immediate
takes_in_code takings.Constant = takes_constant
takes_in_code (takings.LongJump condition kind) = takes_address condition kind
takes_in_code (takings.ShortJump condition) = takes_displacement condition
takes_in_code takings.Name = takes_name
takes_in_code (takings.Entry kind) = takes_entry (entry_bits kind)

-- The label of a line of the code.
abbrev pub in_label : Option (Bor (List ℕ)) → Option (List ℕ)
in_label label = option_map (λ name. name.now) label

-- The words after the label of a line of the code.
abbrev pub in_words : Option (Bor (List ℕ)) → rests.SourceWords → List (List ℕ)
in_words None others = []
in_words (Some first) others = first.now ∷ words_of others.rest.now

-- A line of the code.
abbrev pub in_line : lines.SourceLine → SourceLine
in_line line = record { label = in_label line.label; code = in_words line.first line.others }

-- The words of characters, the last character first.
abbrev pub backward_words : List ℕ → List ℕ
backward_words text = reverse (map (λ byte. byte % 64) text)

-- The statement of words that are the operand of a mnemonic of the code.
abbrev pub taken_operand : table.Taking → Bor (List ℕ) → Result Statement SourceFault
taken_operand takes rest = statement_by (takes_in_code takes) (words_of rest.now)
