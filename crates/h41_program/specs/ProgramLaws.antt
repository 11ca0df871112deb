-- Laws of lists of lines.
use Rattle.std.specs.Prelude.{◌≡◌, ◌⊎◌, ℕ, ◌-◌, ◌*◌, ◌≤◌, All, Bool, IsTrue, List, [], ◌∷◌, ◌++◌}
use Rattle.std.specs.Prelude.{length, replicate, Some, Result, Ok}
use Rattle.h41_codes.specs.ByteGrammar.{IsLine}
use Rattle.h41_codes.specs.declared.line.Line.{Line}
use Rattle.h41_codes.specs.declared.line.Line.TheVariants.{FinalEnd}
use Rattle.h41_ram.specs.RegisterMap.{RegisterMap, is_sound}
use Rattle.h41_program.specs.declared.listed_line.ListedLine.{ListedLine}
use Rattle.h41_program.specs.Edits.{lines_of, before_end, with_last_end, loaded_of, EditGives}
use Rattle.h41_program.specs.Edits.{LoadGives}
use Rattle.h41_program.specs.declared.refusal.ProgramRefusal.{ProgramRefusal}
use Rattle.h41_program.specs.Lines.{is_inner}
use Rattle.h41_program.specs.Packing.{packed_lines, packing, written_end}
use Rattle.h41_program.specs.FirstLines.{FirstFrom, NoneFrom, ReadsTo}
use Rattle.h41_program.specs.ProgramLines.{LinesFrom, Reads}
use Rattle.h41_program.specs.Rewriting.{with_program_lines}
use Rattle.h41_program.specs.Size.{size_outcome}

-- A line that has bytes and that programs can contain.
pub record IsInner (line : Line) : Type 0 where
  pub valid : IsLine line
  pub inner : IsTrue (is_inner line)

-- The bytes of packed lines are read as these lines and .END.
abbrev pub ReadsAgain : List Line → List ListedLine → Type 0
ReadsAgain lines listed =
    Reads (packing lines) (length (packing lines) - 3) 0 listed
    × (lines_of listed ≡ lines ++ FinalEnd 0 0 ∷ [])

-- The packing round trip: the bytes of inner lines are read as these lines and .END.
abbrev pub PackingRoundTrip : Type 0
PackingRoundTrip =
    (lines : List Line) → All IsInner lines → (listed : List ListedLine) × ReadsAgain lines listed

-- Packed lines fill whole registers.
abbrev pub PackingFills : Type 0
PackingFills = (lines : List Line) → (registers : ℕ) × (length (packing lines) ≡ 7 * registers)

-- Packed lines have at most six nulls before .END.
abbrev pub PackingHasFewNulls : Type 0
PackingHasFewNulls =
    (lines : List Line)
    → (nulls : ℕ)
    × (nulls ≤ 6)
    × (packing lines ≡ packed_lines lines ++ replicate nulls 0x00 ++ written_end)

-- Memory has these lines from a position on, followed by .END.
abbrev pub HasLines : RegisterMap → ℕ → List Line → Type 0
HasLines memory at lines =
    (listed : List ListedLine)
    × LinesFrom memory at listed
    × (lines_of listed ≡ lines ++ FinalEnd 0 0 ∷ [])

-- Lines that were written are read again.
abbrev pub WrittenIsRead : Type 0
WrittenIsRead =
    (memory new : RegisterMap) (lines : List Line) → IsTrue (is_sound memory) → All IsInner lines
    → with_program_lines memory lines ≡ Ok new
    → HasLines new 0 lines

-- Bytes that were loaded are read again: the lines of memory, closed, and after them those of the
-- bytes, which begin at the returned position.
pub record LeavesLoaded (memory : RegisterMap) (bytes : List ℕ)
    (new : RegisterMap) (start : ℕ) : Type 0 where
  pub lines : List ListedLine
  pub before : List ListedLine
  pub given : List ListedLine
  pub loaded : List Line
  pub from : LinesFrom memory 0 lines
  pub own : before_end lines ≡ Some before
  pub read : Reads bytes (length bytes) 0 given
  pub taken : loaded_of bytes given ≡ Some loaded
  pub all : HasLines new 0 (with_last_end (lines_of before) ++ loaded)
  pub last : HasLines new start loaded

-- Each memory after a load is read in this way.
abbrev pub LoadIsRead : Type 0
LoadIsRead =
    (memory new : RegisterMap) (bytes : List ℕ) (start : ℕ)
    → LoadGives memory bytes (Ok (new, start)) → LeavesLoaded memory bytes new start

-- Memory with another number of data registers has the same lines.
abbrev pub SizeKeepsLines : Type 0
SizeKeepsLines =
    (memory new : RegisterMap) (size at : ℕ) (lines : List ListedLine) → IsTrue (is_sound memory)
    → size_outcome memory size ≡ Ok (new, tt)
    → LinesFrom memory at lines → LinesFrom new at lines

-- Memory has exactly one list of lines from a position on.
pub record HasOneList (memory : RegisterMap) (at : ℕ) : Type 0 where
  pub lines : List ListedLine
  pub from : LinesFrom memory at lines
  pub one : (others : List ListedLine) → LinesFrom memory at others → others ≡ lines

-- Any memory has exactly one list of lines from each position on.
abbrev pub OneList : Type 0
OneList = (memory : RegisterMap) (at : ℕ) → HasOneList memory at

-- No bytes have two first lines from a position on.
abbrev pub FirstIsDetermined : Type 0
FirstIsDetermined =
    (bytes : List ℕ) (final at : ℕ) (first other : ListedLine)
    → FirstFrom bytes final at first → FirstFrom bytes final at other → first ≡ other

-- No bytes are read as two lists of lines, whichever lines end a list.
abbrev pub ReadIsDetermined : Type 0
ReadIsDetermined =
    (ends : Line → Bool) (bytes : List ℕ) (final at : ℕ) (lines others : List ListedLine)
    → ReadsTo ends bytes final at lines → ReadsTo ends bytes final at others → lines ≡ others

-- Bytes have a first line from each position on, or none.
abbrev pub EachHasFirst : Type 0
EachHasFirst =
    (bytes : List ℕ) (final at : ℕ)
    → ((first : ListedLine) × FirstFrom bytes final at first) ⊎ NoneFrom bytes final at

-- Bytes have a list of lines from each position on, whichever lines end it.
abbrev pub EachIsListed : Type 0
EachIsListed =
    (ends : Line → Bool) (bytes : List ℕ) (final at : ℕ)
    → (lines : List ListedLine) × ReadsTo ends bytes final at lines

-- No memory has two lists of lines from a position on.
abbrev pub ListsAreDetermined : Type 0
ListsAreDetermined =
    (memory : RegisterMap) (at : ℕ) (lines others : List ListedLine)
    → LinesFrom memory at lines → LinesFrom memory at others → lines ≡ others

-- A load has one outcome.
abbrev pub LoadsAreDetermined : Type 0
LoadsAreDetermined =
    (memory : RegisterMap) (bytes : List ℕ)
    (outcome other : Result (RegisterMap × ℕ) ProgramRefusal)
    → LoadGives memory bytes outcome → LoadGives memory bytes other → outcome ≡ other

-- A change of the list has one outcome.
abbrev pub EditsAreDetermined : Type 0
EditsAreDetermined =
    (memory : RegisterMap) (change : ℕ → ListedLine → List Line) (at : ℕ)
    (outcome other : Result (RegisterMap × Unit {0}) ProgramRefusal)
    → EditGives memory change at outcome → EditGives memory change at other → outcome ≡ other

-- A position has the same line as that line's own position: the lists from both are the same.
abbrev pub StandsForItsLine : Type 0
StandsForItsLine =
    (memory : RegisterMap) (at : ℕ) (first : ListedLine) (rest : List ListedLine)
    → LinesFrom memory at (first ∷ rest) → LinesFrom memory first.position (first ∷ rest)

-- The list from the next line's position on is the rest of the list.
abbrev pub GoesOnFromNext : Type 0
GoesOnFromNext =
    (memory : RegisterMap) (at : ℕ) (first second : ListedLine) (rest : List ListedLine)
    → LinesFrom memory at (first ∷ second ∷ rest) → LinesFrom memory second.position (second ∷ rest)
