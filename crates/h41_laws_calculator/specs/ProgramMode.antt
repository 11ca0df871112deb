-- Keys have a result in program mode.
use Rattle.std.specs.Prelude.{IsTrue, Result}
use Rattle.h41_codes.specs.declared.line.Line.{Line}
use Rattle.h41_positions.specs.FocalState.{Machine}
use Rattle.h41_program.specs.ProgramLaws.{IsInner}
use Rattle.h41_program.specs.declared.refusal.ProgramRefusal.{ProgramRefusal}
use Rattle.h41_ram.specs.RegisterMap.{is_sound}
use Rattle.h41_laws_words.specs.HasOne.{HasOne}

-- A move of the position, and BACK, have exactly one outcome, for any machine.
abbrev pub MoveHasOneOutcome : (Machine → Result Machine ProgramRefusal → Type 0) → Type 0
MoveHasOneOutcome Moves = (machine : Machine) → HasOne (Moves machine)

-- A line that can be encoded in bytes, and is neither a null nor .END., is inserted, or replaces
-- another, in exactly one way, if memory is sound.
abbrev pub ChangeHasOneOutcome : (Line → Machine → Result Machine ProgramRefusal → Type 0) → Type 0
ChangeHasOneOutcome Makes =
    (line : Line) (machine : Machine) → IsInner line → IsTrue (is_sound machine.memory)
    → HasOne (Makes line machine)
