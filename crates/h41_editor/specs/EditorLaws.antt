-- Laws of program mode, which hold for the definitions alone: the line at a position, the effect of
-- a key, and the text of the display are determined.
use Rattle.std.specs.Prelude.{◌≡◌, ℕ, List, Result}
use Rattle.h41_codes.specs.declared.line.Line.{Line}
use Rattle.h41_editor.specs.NumberedLines.{HasNumbered}
use Rattle.h41_editor.specs.ProgramText.{ShowsProgram}
use Rattle.h41_positions.specs.FocalState.{Machine}
use Rattle.h41_pages.specs.PageMap.{PageMap}
use Rattle.h41_positions.specs.PositionLaws.{HasOneAnswer}
use Rattle.h41_program.specs.declared.refusal.ProgramRefusal.{ProgramRefusal}

-- The effect of a key has one outcome: a state, or a refusal.
abbrev pub MoveIsDetermined : (Machine → Result Machine ProgramRefusal → Type 0) → Type 0
MoveIsDetermined Moves =
    (machine : Machine) (moved other : Result Machine ProgramRefusal) → Moves machine moved
    → Moves machine other → moved ≡ other

-- The effect of a key that changes lines has one outcome, whatever the line is.
abbrev pub ChangeIsDetermined : (Line → Machine → Result Machine ProgramRefusal → Type 0) → Type 0
ChangeIsDetermined Makes = (line : Line) → MoveIsDetermined (Makes line)

-- A position has one line with one number, or none.
abbrev pub NumberedIsDetermined : Type 0
NumberedIsDetermined = HasOneAnswer HasNumbered

-- The display shows one text.
abbrev pub TextIsDetermined : Type 0
TextIsDetermined =
    (pages : PageMap) (machine : Machine) (text other : List ℕ) → ShowsProgram pages machine text
    → ShowsProgram pages machine other → text ≡ other
