-- Changes of the list of lines have a result.
use Rattle.std.specs.Prelude.{ℕ, List}
use Rattle.h41_codes.specs.declared.line.Line.{Line}
use Rattle.h41_ram.specs.RegisterMap.{RegisterMap}
use Rattle.h41_program.specs.Edits.{AnswersChanged, EditGives, LoadGives}
use Rattle.h41_program.specs.ProgramBytes.{final_position, program_bytes}
use Rattle.h41_program.specs.FirstLines.{FirstFrom}
use Rattle.h41_program.specs.declared.listed_line.ListedLine.{ListedLine}
use Rattle.h41_laws_words.specs.HasOne.{HasOne}

-- A change at any position has exactly one outcome, which may be a refusal.
abbrev pub EditHasOneOutcome : Type 0
EditHasOneOutcome =
    (memory : RegisterMap) (change : ℕ → ListedLine → List Line) (at : ℕ)
    → HasOne (EditGives memory change at)

-- A load of any bytes has exactly one outcome.
abbrev pub LoadHasOneOutcome : Type 0
LoadHasOneOutcome = (memory : RegisterMap) (bytes : List ℕ) → HasOne (LoadGives memory bytes)

-- A question about a changed list has exactly one answer, if there is a line at the position.
abbrev pub ChangeHasOneAnswer : Type 0 → Type 0
ChangeHasOneAnswer A =
    (answer : ℕ → List ListedLine → A) (memory : RegisterMap) (at : ℕ) (new : RegisterMap)
    (first : ListedLine)
    → FirstFrom (program_bytes memory) (final_position memory) at first
    → HasOne (AnswersChanged answer memory at new)
