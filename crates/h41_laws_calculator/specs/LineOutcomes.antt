-- A line by itself has an outcome, the state that it leaves or its refusal, whatever the pages
-- contain.
use Rattle.h41_codes.specs.declared.line.Line.{Line}
use Rattle.h41_positions.specs.FocalState.{Machine}
use Rattle.h41_focal.specs.LineStep.{StepsLine, TypesLine}
use Rattle.h41_pages.specs.PageMap.{PageMap}
use Rattle.h41_laws_words.specs.HasOne.{HasOne}

-- The line at the position has exactly one outcome.
abbrev pub StepHasOneOutcome : Type 0
StepHasOneOutcome = (pages : PageMap) (machine : Machine) → HasOne (StepsLine pages machine)

-- A typed line has exactly one outcome.
abbrev pub TypedHasOneOutcome : Type 0
TypedHasOneOutcome =
    (pages : PageMap) (line : Line) (machine : Machine) → HasOne (TypesLine pages line machine)
