-- The contracts of a machine's functions, with the machine after the call and an answer in which
-- texts are their bytes.
use Rattle.std.specs.Prelude.{Result, Ok, Err}
use Rattle.h41_codes.specs.declared.line.Line.{Line}
use Rattle.h41_focal.specs.LineStep.{Left}
use Rattle.h41_focal.specs.OutsideCalls.{CarriesLine, Keys, Program}
use Rattle.h41_focal.specs.Outcomes.{answer_of}
use Rattle.h41_focal.specs.declared.outcome.LineOutcome.{LineOutcome}
use Rattle.h41_focal.specs.declared.refusal.FocalRefusal.{FocalRefusal}
use Rattle.h41_pages.specs.PageMap.{PageMap}
use Rattle.h41_positions.specs.FocalState.{Machine}

-- The machine after a call, and its answer.
abbrev pub left_of : Machine → LineOutcome → Left
left_of machine outcome = record {
  machine = machine;
  answer = answer_of machine.memory outcome;
}

-- The machine after a call and its answer, or its refusal.
abbrev pub carried_as : Machine → Result LineOutcome FocalRefusal → Result Left FocalRefusal
carried_as machine (Ok outcome) = Ok (left_of machine outcome)
carried_as machine (Err refusal) = Err refusal

-- The contract of a call: the machine before and after, and the result.
abbrev pub Call : Type 1
Call = (old new : Machine) → Result LineOutcome FocalRefusal → Type 0

-- The line at the position is executed with all that it calls.
abbrev pub Steps : PageMap → Call
Steps pages old new result = CarriesLine Program pages old (carried_as new result)

-- A typed line is executed with all that it calls.
abbrev pub Types : PageMap → Line → Call
Types pages line old new result = CarriesLine (Keys line) pages old (carried_as new result)
