-- What the code stores of the lines that have words, which is the meaning of these lines. It only
-- connects the code with the definitions of assembly.
use Rattle.std.specs.Prelude.{◌≡◌, ℕ, suc, ◌+◌, ◌≤◌, List, [], ◌∷◌, ◌++◌, map, ◌==◌, if◌then◌else◌}
use Rattle.std.specs.Prelude.{IsOk, None, Result, Ok, Vec, length}
use Rattle.std.specs.Borrow.{Bor}
use Rattle.std.specs.Global.{Global}
use Rattle.std.specs.List.{zip}
use Rattle.std.specs.Option.{option_or}
use Rattle.h41_asm.specs.declared.fault.SourceFault.{SourceFault}
use Rattle.h41_asm.specs.declared.kept.KeptLine.{KeptLine}
use Rattle.h41_asm.specs.declared.source.SourceLine as code_lines
use Rattle.h41_asm.specs.declared.statement.Statement as code
use Rattle.h41_asm.specs.Assembly.{address_count}
use Rattle.h41_asm.specs.private.CodeStatements.{in_code, in_form, in_line}
use Rattle.h41_asm.specs.Faults.{FaultOnLine, at_line, read_fault, read_length}
use Rattle.h41_asm.specs.private.LabelTable.{Table, labels_in}
use Rattle.h41_asm.specs.Placing.{Labels, SpellsRead}
use Rattle.h41_asm.specs.SourceLines.{SourceLine, source_lines}
use Rattle.h41_asm.specs.Statements.{Statement, reading_of, statement_length}

-- What was read of a line, and its number.
abbrev pub Said : Type 0
Said = ℕ × Result Statement SourceFault

-- The meaning of the stored lines, with the name of each.
abbrev pub kept_said : List KeptLine → List (Bor (List ℕ)) → List Said
kept_said lines names =
    map (λ kept. (kept.0.number, Ok (in_form kept.0.form kept.1.now))) (zip lines names)

-- A line as it was read, with its number, if it has words.
abbrev pub with_words : ℕ → Result Statement SourceFault → List Said
with_words number said = if read_length said == 0 then [] else (number, said) ∷ []

-- What was read of the lines that have words; the first line has this number.
abbrev pub said_from : ℕ → List SourceLine → List Said
said_from number [] = []
said_from number (line ∷ rest) =
    with_words number (reading_of line.code) ++ said_from (suc number) rest

-- The stored lines and names have the meaning of the lines of a source.
pub record KeepsLines (text : List ℕ)
    (lines : List KeptLine) (names : List (Bor (List ℕ))) : Type 0 where
  pub length : length names ≡ length lines
  pub said : kept_said lines names ≡ said_from 1 (source_lines text)

-- The lines that are stored for a statement: one if it has words.
abbrev pub kept_lines : ℕ → code.Statement → List KeptLine
kept_lines number statement =
    if statement_length (in_code statement) == 0 then []
    else record { number = number; form = statement.form } ∷ []

-- The names that are stored for a statement: one if it has words.
abbrev pub kept_names : code.Statement → List (Bor (List ℕ))
kept_names statement =
    if statement_length (in_code statement) == 0 then [] else statement.name ∷ []

-- The first error of a reference in lines that begin at an address.
abbrev pub said_faults : Labels → ℕ → List Said → FaultOnLine
said_faults labels address [] = None
said_faults labels address (said ∷ rest) =
    option_or (at_line said.0 (read_fault labels address said.1))
    (said_faults labels (address + read_length said.1) rest)

-- The first error of a reference in stored lines, by a table of labels.
abbrev pub first_fault_by : {S : Type 0} → Table S → ℕ → List KeptLine → List (Bor (List ℕ))
    → FaultOnLine
first_fault_by table origin lines names =
    said_faults (labels_in table) origin (kept_said lines names)

-- All lines could be read and end within the addresses.
abbrev pub AreReady : ℕ → List Said → Type 0
AreReady address [] = Unit {0}
AreReady address (said ∷ rest) =
    IsOk said.1
    × (address + read_length said.1 ≤ address_count)
    × AreReady (address + read_length said.1) rest

-- All stored lines are ready: they end within the addresses.
abbrev pub AreReadyFrom : ℕ → List KeptLine → List (Bor (List ℕ)) → Type 0
AreReadyFrom origin lines names = AreReady origin (kept_said lines names)

-- The lines spell these words, each line its own.
abbrev pub SaidSpell : Labels → ℕ → List Said → List ℕ → Type 0
SaidSpell labels address [] words = words ≡ []
SaidSpell labels address (said ∷ rest) words =
    (own : List ℕ)
    × (others : List ℕ)
    × (words ≡ own ++ others)
    × SpellsRead labels address said.1 own
    × SaidSpell labels (address + read_length said.1) rest others

-- The stored lines spell these words, by a table of labels.
abbrev pub SpellsBy : {S : Type 0} → Table S → ℕ → List KeptLine → List (Bor (List ℕ))
    → Vec ℕ Global → Type 0
SpellsBy table origin lines names words =
    SaidSpell (labels_in table) origin (kept_said lines names) words.items

-- A line of the code has the meaning of a statement of the code.
abbrev pub Says : code.Statement → code_lines.SourceLine → Type 0
Says statement line = Ok (in_code statement) ≡ reading_of (in_line line).code
