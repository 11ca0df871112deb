-- The code's table of first words, and the statements of the words after each of them. It only
-- connects the code with `reading_of`.
use Rattle.std.specs.Prelude.{◌≡◌, ℕ, ◌<◌, if◌then◌else◌, false, bytes_eq, codes, length, map}
use Rattle.std.specs.Prelude.{slice_index, slice_index_or, All, List, [], ◌∷◌, Option, Some, None}
use Rattle.std.specs.Prelude.{Result, Ok, Err}
use Rattle.std.specs.Borrow.{Bor}
use Rattle.h41_fields.specs.declared.field.Pointer.TheVariants.{P, Q}
use Rattle.h41_lines.specs.private.Hashes.{word_hash}
use Rattle.h41_words.specs.declared.rows.Row.TheVariants as rows
use Rattle.h41_words.specs.declared.rows.Condition.{Condition}
use Rattle.h41_words.specs.Counts.{word_count}
use Rattle.h41_words.specs.WordTable.{number_of}
use Rattle.h41_words.specs.declared.second_word.LongJumpKind.TheVariants.{Execute, Go}
use Rattle.h41_asm.specs.declared.fault.SourceFault.{SourceFault}
use Rattle.h41_asm.specs.declared.fault.SourceFault.TheVariants.{BadLine, BadOperand}
use Rattle.h41_asm.specs.declared.table.Opening as table
use Rattle.h41_asm.specs.declared.table.Opening.TheVariants as openings
use Rattle.h41_asm.specs.declared.statement.Statement as code
use Rattle.h41_asm.specs.declared.words.SourceWords as rests
use Rattle.h41_asm.specs.private.CodeStatements.{read_in_code, takes_in_code, takes_numbered}
use Rattle.h41_asm.specs.SourceLines.{words_of}
use Rattle.h41_asm.specs.Statements.{Statement, Words, Taking, is_whole, reading_of, statement_by}
use Rattle.h41_asm.specs.Statements.{takes_address}

-- The statement of an instruction without an operand: no word may follow it.
abbrev pub without_operand : ℕ → List (List ℕ) → Result Statement SourceFault
without_operand number [] = Ok (Words (number ∷ []))
without_operand number (word ∷ others) = Err BadOperand

-- The statement of READ and WRIT, after which DATA or an operand follows.
abbrev pub data_or : ℕ → Taking → List (List ℕ) → Result Statement SourceFault
data_or number takes words =
    if is_whole words (codes "DATA") then Ok (Words (number ∷ [])) else statement_by takes words

-- The statement by a rule for the second word and the words after it.
abbrev pub by_second : (List ℕ → List (List ℕ) → Result Statement SourceFault) → List (List ℕ)
    → Result Statement SourceFault
by_second says [] = Err BadLine
by_second says (second ∷ others) = says second others

-- The code read the words after a first word as a rule for these words says.
abbrev pub Reads : (List (List ℕ) → Result Statement SourceFault) → rests.SourceWords
    → Result code.Statement SourceFault → Type 0
Reads says others read = read_in_code read ≡ says (words_of others.rest.now)

-- The code read the words after a first word as a rule for the second word and those after it says.
abbrev pub ReadsSecond : (List ℕ → List (List ℕ) → Result Statement SourceFault) → rests.SourceWords
    → Result code.Statement SourceFault → Type 0
ReadsSecond says others read = Reads (by_second says) others read

-- An instruction whose mnemonic has this second word.
abbrev pub pair : List ℕ → ℕ → List ℕ → List (List ℕ) → Result Statement SourceFault
pair name number second others = if bytes_eq second name then without_operand number others else Err
    BadLine

-- One of two instructions, which the second word selects.
abbrev pub one_of_two : List ℕ → ℕ → List ℕ → ℕ → List ℕ → List (List ℕ)
    → Result Statement SourceFault
one_of_two name number other_name other second others =
    if bytes_eq second name then without_operand number others else pair other_name other second
    others

-- An instruction whose mnemonic ends in A.
abbrev pub then_a : ℕ → List (List ℕ) → Result Statement SourceFault
then_a number words = by_second (pair (codes "A") number) words

-- The instructions C=C OR A and C=C AND A.
abbrev pub logic : List ℕ → List (List ℕ) → Result Statement SourceFault
logic second others =
    if bytes_eq second (codes "OR") then then_a (number_of rows.Or) others
    else (if bytes_eq second (codes "AND") then then_a (number_of rows.And) others else Err BadLine)

-- The returns and jumps by address with a condition.
abbrev pub at_carry : Condition → List ℕ → List (List ℕ) → Result Statement SourceFault
at_carry condition second others =
    if bytes_eq second (codes "RTN") then without_operand (number_of (rows.ReturnIf condition))
    others
    else (if bytes_eq second (codes "XQ") then statement_by (takes_address condition Execute) others
    else (if bytes_eq second (codes "GO") then statement_by (takes_address condition Go) others
    else Err BadLine))

-- The statement of the words after a first word.
abbrev pub statement_of : table.Opening → List (List ℕ) → Result Statement SourceFault
statement_of (openings.Single number) others = without_operand number others
statement_of (openings.Taker takes) others = statement_by (takes_in_code takes) others
statement_of (openings.Data number numbered) others =
    data_or number (takes_numbered numbered) others
statement_of openings.Push others =
    by_second (pair (codes "ADR") (number_of rows.PushAddress)) others
statement_of openings.Pop others = by_second (pair (codes "ADR") (number_of rows.PopAddress)) others
statement_of openings.Ram others =
    by_second (pair (codes "SLCT") (number_of rows.SelectRegister)) others
statement_of openings.Peripheral others =
    by_second (pair (codes "SLCT") (number_of rows.SelectPeripheral)) others
statement_of openings.Fetch others =
    by_second (pair (codes "S&X") (number_of rows.FetchWord)) others
statement_of openings.Select others =
    by_second (one_of_two (codes "P") (number_of (rows.SelectPointer P))
    (codes "Q") (number_of (rows.SelectPointer Q)))
    others
statement_of openings.GoTo others =
    by_second
    (one_of_two (codes "ADR") (number_of rows.GoToAddress) (codes "KEY") (number_of rows.GoToKey))
    others
statement_of openings.Logic others = by_second logic others
statement_of (openings.If condition) others = by_second (at_carry condition) others

-- The statement of the words after a first word, which may be unknown.
abbrev pub opened_or_bad : Option table.Opening → List (List ℕ) → Result Statement SourceFault
opened_or_bad None others = Err BadLine
opened_or_bad (Some opening) others = statement_of opening others

-- The numbers of words in an entry are those of words.
abbrev pub TellsWords : table.Opening → Type 0
TellsWords (openings.Single number) = number < word_count
TellsWords (openings.Data number numbered) = number < word_count
TellsWords other = Unit {0}

-- The meaning of a first word: whatever words follow it, they are read by this entry, or are a
-- BadLine (30).
abbrev pub OpensAs : List ℕ → Option table.Opening → Type 0
OpensAs word found = (others : List (List ℕ)) → reading_of (word ∷ others)
    ≡ opened_or_bad found others

-- The number of hashes.
abbrev pub place_count : ℕ
place_count = 256

-- The hash of a word.
abbrev pub hash_of : List ℕ → ℕ
hash_of word = word_hash 27371 15327 word

-- An entry of the code's table: a first word and what it begins.
abbrev pub TableEntry : Type 0
TableEntry = List ℕ × table.Opening

-- The entries of the code's table.
abbrev pub entries_in : List (Bor (List ℕ) × table.Opening) → List TableEntry
entries_in openings = map (λ opening. (opening.0.now, opening.1)) openings

-- Each entry is right, and a word that is not the entry of its own hash begins nothing.
pub record IsTable (entries : List TableEntry) (places : List ℕ) : Type 0 where
  pub count : length places ≡ place_count
  pub within : (k : ℕ) → k < length places → slice_index places k < length entries
  pub sound : All (λ entry. OpensAs entry.0 (Some entry.1)) entries
  pub words : All (λ entry. TellsWords entry.1) entries
  pub complete : (word : List ℕ) (other : TableEntry)
      → bytes_eq word (slice_index_or entries (slice_index places (hash_of word)) other).0 ≡ false
      → OpensAs word None
