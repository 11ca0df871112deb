use Rattle.h41_focal.proofs.Named.{same_function}
use Rattle.h41_focal.proofs.OneOutcome.{line_determined, step_determined, typed_determined}
use Rattle.h41_focal.proofs.laws.line_is_determined.Goals as goal

pub returns-clause-step : goal.returns-clause-step
returns-clause-step c =
    step_determined c.values_are_determined.ensures
    c.positions_are_read.ensures.read c.positions_are_read.ensures.start
    c.positions_are_read.ensures.local c.searches_are_determined.ensures.global

pub returns-clause-typed : goal.returns-clause-typed
returns-clause-typed c =
    typed_determined c.values_are_determined.ensures
    c.positions_are_read.ensures.read c.positions_are_read.ensures.start
    c.positions_are_read.ensures.local c.searches_are_determined.ensures.global

pub returns-clause-line : goal.returns-clause-line
returns-clause-line c =
    line_determined c.values_are_determined.ensures
    c.positions_are_read.ensures.read c.positions_are_read.ensures.start
    c.positions_are_read.ensures.local c.searches_are_determined.ensures.global (same_function c.line_text_round_trip.ensures.one)

pub returns-clause-name : goal.returns-clause-name
returns-clause-name c = same_function c.line_text_round_trip.ensures.one
