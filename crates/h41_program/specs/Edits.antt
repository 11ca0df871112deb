-- The lines of program memory after a line is inserted or deleted or bytes are loaded, and the
-- position that is returned.
use Rattle.std.specs.Prelude.{◌≡◌, ◌⊎◌, ℕ, zero, suc, Bool, false, not, ◌||◌, is_some, ◌&&◌, List}
use Rattle.std.specs.Prelude.{[], ◌∷◌, ◌++◌, map, length, drop, count_by, slice_get, nat_lt, ◌==◌}
use Rattle.std.specs.Prelude.{if◌then◌else◌, Option, Some, None, Result, Ok, Err}
use Rattle.std.specs.List.{list_all, list_any, flat_map}
use Rattle.std.specs.Option.{option_map, option_map_or}
use Rattle.h41_codes.specs.declared.line.Line.{Line}
use Rattle.h41_codes.specs.declared.line.Line.TheVariants.{End, FinalEnd}
use Rattle.h41_ram.specs.RegisterMap.{RegisterMap}
use Rattle.h41_program.specs.declared.editing.InFront.{InFront}
use Rattle.h41_program.specs.declared.editing.InFront.TheVariants.{Line as LineHere, Start}
use Rattle.h41_program.specs.declared.listed_line.ListedLine.{ListedLine}
use Rattle.h41_program.specs.declared.refusal.ProgramRefusal.{ProgramRefusal}
use Rattle.h41_program.specs.declared.refusal.ProgramRefusal.TheVariants.{BrokenProgram}
use Rattle.h41_program.specs.Lines.{is_end, is_final_end}
use Rattle.h41_program.specs.Packing.{last_line, packed_lines}
use Rattle.h41_program.specs.ProgramBytes.{program_bytes, final_position}
use Rattle.h41_program.specs.FirstLines.{FirstFrom, behind}
use Rattle.h41_program.specs.ProgramLines.{HasNoLine, LinesFrom, Reads}
use Rattle.h41_program.specs.Rewriting.{with_program_lines, HasOutcome}
use Rattle.h41_program.specs.Searches.{position_of}

-- The lines without their positions.
abbrev pub lines_of : List ListedLine → List Line
lines_of listed = map (λ each. each.line) listed

-- The lines before .END., if the list reaches it.
abbrev pub before_end : List ListedLine → Option (List ListedLine)
before_end [] = None
before_end (first ∷ rest) =
    if is_final_end first.line then Some []
    else option_map (λ lines. first ∷ lines) (before_end rest)

-- The last program of these lines is open if it has lines but no END.
abbrev pub is_open : List Line → Bool
is_open lines = option_map_or (λ line. not (is_end line)) (last_line lines) false

-- The lines with an END after the last program if it is open.
abbrev pub with_last_end : List Line → List Line
with_last_end lines = if is_open lines then lines ++ End 0 0 ∷ [] else lines

-- The lines to be loaded, without an END or .END. at their end.
abbrev pub without_end : List Line → List Line
without_end [] = []
without_end (line ∷ []) = if is_end line || is_final_end line then [] else line ∷ []
without_end (line ∷ next ∷ lines) = line ∷ without_end (next ∷ lines)

-- The position of the byte after the last line, or 0 if there is none.
abbrev pub end_of_lines : List ListedLine → ℕ
end_of_lines [] = 0
end_of_lines (first ∷ []) = behind first
end_of_lines (first ∷ second ∷ rest) = end_of_lines (second ∷ rest)

-- The lines of bytes that are to be loaded. There are none if anything but nulls is left after the
-- last line.
abbrev pub loaded_of : List ℕ → List ListedLine → Option (List Line)
loaded_of bytes given =
    if list_all (λ byte. byte == 0x00) (drop (end_of_lines given) bytes)
    then Some (without_end (lines_of given))
    else None

-- Memory with these lines and an answer, or the refusal.
abbrev pub memory_with_answer : {A : Type 0} → A → Result RegisterMap ProgramRefusal
    → Result (RegisterMap × A) ProgramRefusal
memory_with_answer answer (Ok memory) = Ok (memory, answer)
memory_with_answer answer (Err refusal) = Err refusal

-- Lines are loaded after others. The answer is the position of the first of them.
abbrev pub load_behind : RegisterMap → List Line → List Line
    → Result (RegisterMap × ℕ) ProgramRefusal
load_behind memory lines loaded =
    memory_with_answer (length (packed_lines (with_last_end lines)))
    (with_program_lines memory (with_last_end lines ++ loaded))

-- The outcome of a load, if the bytes contain lines to be loaded, otherwise BrokenProgram (14).
abbrev pub load_outcome : RegisterMap → List ListedLine → Option (List Line)
    → Result (RegisterMap × ℕ) ProgramRefusal
load_outcome memory lines None = Err BrokenProgram
load_outcome memory lines (Some loaded) = load_behind memory (lines_of lines) loaded

-- The outcome of loading bytes after the lines before .END. The bytes are read only if the list
-- reaches .END.
abbrev pub LoadsBehind : RegisterMap → List ℕ → Option (List ListedLine)
    → Result (RegisterMap × ℕ) ProgramRefusal → Type 0
LoadsBehind memory bytes None outcome = outcome ≡ Err BrokenProgram
LoadsBehind memory bytes (Some lines) outcome =
    (given : List ListedLine)
    × Reads bytes (length bytes) 0 given
    × (outcome ≡ load_outcome memory lines (loaded_of bytes given))

-- The outcome of loading bytes: memory with their lines after its own and the position of the first
-- of them, or the refusal.
abbrev pub LoadGives : RegisterMap → List ℕ → Result (RegisterMap × ℕ) ProgramRefusal → Type 0
LoadGives memory bytes outcome =
    (lines : List ListedLine)
    × LinesFrom memory 0 lines
    × LoadsBehind memory bytes (before_end lines) outcome

-- Bytes are loaded into memory.
abbrev pub Loads : RegisterMap → RegisterMap → List ℕ → Result ℕ ProgramRefusal → Type 0
Loads old new bytes result =
    (outcome : Result (RegisterMap × ℕ) ProgramRefusal)
    × LoadGives old bytes outcome
    × HasOutcome old new result outcome

-- The outcome of closing the last program: an END is appended if it is open, otherwise memory is
-- unchanged.
abbrev pub close_outcome : RegisterMap → List Line → Result (RegisterMap × Unit {0}) ProgramRefusal
close_outcome memory lines =
    if is_open lines then memory_with_answer tt (with_program_lines memory (with_last_end lines))
    else Ok (memory, tt)

-- The outcome of closing the last program, which is BrokenProgram (14) if the list does not reach
-- .END.
abbrev pub close_behind : RegisterMap → Option (List ListedLine)
    → Result (RegisterMap × Unit {0}) ProgramRefusal
close_behind memory None = Err BrokenProgram
close_behind memory (Some lines) = close_outcome memory (lines_of lines)

-- The last program in memory is closed.
abbrev pub Closes : RegisterMap → RegisterMap → Result (Unit {0}) ProgramRefusal → Type 0
Closes old new result =
    (lines : List ListedLine)
    × LinesFrom old 0 lines
    × HasOutcome old new result (close_behind old (before_end lines))

-- Whether the list has a line at a position.
abbrev pub has_line_at : ℕ → List ListedLine → Bool
has_line_at position lines = list_any (λ listed. listed.position == position) lines

-- A line of the list remains unchanged. .END. is not among these lines, because it is always
-- written again.
abbrev pub own_line : ListedLine → List Line
own_line listed = if is_final_end listed.line then [] else listed.line ∷ []

-- The lines at a line of the list after another one is inserted before the line at a position.
abbrev pub with_inserted : Line → ℕ → ListedLine → List Line
with_inserted line position listed =
    (if listed.position == position then line ∷ [] else []) ++ own_line listed

-- The lines at a line of the list after the line at a position is replaced.
abbrev pub with_replaced : Line → ℕ → ListedLine → List Line
with_replaced line position listed =
    if listed.position == position then line ∷ [] else own_line listed

-- The lines at a line of the list after the line at a position is deleted.
abbrev pub without_deleted : ℕ → ListedLine → List Line
without_deleted position listed = if listed.position == position then [] else own_line listed

-- Memory with the changed lines, or BrokenProgram (14) if there is nothing to change.
abbrev pub changed_outcome : Bool → RegisterMap → List Line
    → Result (RegisterMap × Unit {0}) ProgramRefusal
changed_outcome changed memory lines =
    if changed then memory_with_answer tt (with_program_lines memory lines) else Err BrokenProgram

-- Memory with each line changed. It is refused if the list does not reach .END. or has no line at
-- the position.
abbrev pub edit_outcome : RegisterMap → (ListedLine → List Line) → ℕ → List ListedLine
    → Result (RegisterMap × Unit {0}) ProgramRefusal
edit_outcome memory change position lines =
    changed_outcome (is_some (before_end lines) && has_line_at position lines)
    memory (flat_map change lines)

-- The outcome of a change at a line's own position.
abbrev pub ChangeGives : RegisterMap → (ListedLine → List Line) → ℕ
    → Result (RegisterMap × Unit {0}) ProgramRefusal → Type 0
ChangeGives memory change position outcome =
    (lines : List ListedLine)
    × LinesFrom memory 0 lines
    × (outcome ≡ edit_outcome memory change position lines)

-- The outcome of a change at the line at a position. It is refused as BrokenProgram (14) if there
-- is no such line.
abbrev pub EditGives : RegisterMap → (ℕ → ListedLine → List Line) → ℕ
    → Result (RegisterMap × Unit {0}) ProgramRefusal → Type 0
EditGives memory change at outcome =
    ((first : ListedLine)
    × FirstFrom (program_bytes memory) (final_position memory) at first
    × ChangeGives memory (change first.position) first.position outcome)
    ⊎ (HasNoLine memory at × (outcome ≡ Err BrokenProgram))

-- Memory after a change is read as the changed list: these lines from 0 on, and .END.
pub record LeavesChanged (memory : RegisterMap) (change : ℕ → ListedLine → List Line)
    (at : ℕ) (new : RegisterMap) : Type 0 where
  pub first : ListedLine
  pub lines : List ListedLine
  pub listed : List ListedLine
  pub stands : FirstFrom (program_bytes memory) (final_position memory) at first
  pub from : LinesFrom memory 0 lines
  pub read : LinesFrom new 0 listed
  pub same : lines_of listed ≡ flat_map (change first.position) lines ++ FinalEnd 0 0 ∷ []

-- How many lines precede a position.
abbrev pub count_before : ℕ → List ListedLine → ℕ
count_before position lines = count_by (λ listed. nat_lt listed.position position) lines

-- The position of the line that has this many lines before it.
abbrev pub position_behind : ℕ → List ListedLine → Option ℕ
position_behind count listed = position_of (slice_get listed count)

-- What precedes the line after this one. If this one is an END, it belongs to another program, and
-- the next program begins after it.
abbrev pub front_behind : ListedLine → InFront
front_behind last = if is_end last.line then Start (behind last) else LineHere last.position

-- What precedes the line that has this many lines before it. The first program begins at 0.
abbrev pub position_in_front : ℕ → List ListedLine → InFront
position_in_front zero listed = Start 0
position_in_front (suc count) listed = option_map_or front_behind (slice_get listed count) (Start 0)

-- An answer for the changed list depends on how many lines precede the line at a position.
pub record AnswersChanged {A : Type 0} (answer : ℕ → List ListedLine → A)
    (memory : RegisterMap) (at : ℕ) (new : RegisterMap) (result : A) : Type 0 where
  pub first : ListedLine
  pub lines : List ListedLine
  pub listed : List ListedLine
  pub stands : FirstFrom (program_bytes memory) (final_position memory) at first
  pub from : LinesFrom memory 0 lines
  pub read : LinesFrom new 0 listed
  pub is : result ≡ answer (count_before first.position lines) listed

-- The position of the new line: as many lines precede it in the changed list.
abbrev pub StandsNew : RegisterMap → ℕ → RegisterMap → ℕ → Type 0
StandsNew memory at new position = AnswersChanged position_behind memory at new (Some position)

-- This line is the first from a position on, and its first byte is there.
abbrev pub Stands : RegisterMap → Line → ℕ → Type 0
Stands memory line position =
    FirstFrom (program_bytes memory) (final_position memory) position
    (record { position = position; line = line })

-- The position of the line before a deleted one or, if the deleted line was the first of its
-- program, the start of that program.
abbrev pub StandsBefore : RegisterMap → ℕ → RegisterMap → InFront → Type 0
StandsBefore memory at new front = AnswersChanged position_in_front memory at new front

-- A change of the list has one answer, of any type.
abbrev pub PlacesAreDetermined : Type 0 → Type 0
PlacesAreDetermined A =
    (answer : ℕ → List ListedLine → A) (memory : RegisterMap)
    (at : ℕ) (new : RegisterMap) (result other : A)
    → AnswersChanged answer memory at new result → AnswersChanged answer memory at new other
    → result ≡ other

-- Whether a call succeeded, without its answer.
abbrev pub without_answer : {A : Type 0} → Result A ProgramRefusal
    → Result (Unit {0}) ProgramRefusal
without_answer (Ok answer) = Ok tt
without_answer (Err refusal) = Err refusal

-- The list is changed at the line at a position.
abbrev pub Edits : RegisterMap → RegisterMap → (ℕ → ListedLine → List Line) → ℕ
    → Result (Unit {0}) ProgramRefusal → Type 0
Edits old new change at result =
    (outcome : Result (RegisterMap × Unit {0}) ProgramRefusal)
    × EditGives old change at outcome
    × HasOutcome old new result outcome
