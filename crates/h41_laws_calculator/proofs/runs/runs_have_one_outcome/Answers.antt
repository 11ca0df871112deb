use Rattle.h41_laws_calculator.proofs.Left.{one_of_runs, one_of_steps, one_of_traces}
use Rattle.h41_laws_calculator.proofs.RunSteps.{ran, stepped}
use Rattle.h41_laws_calculator.proofs.runs.runs_have_one_outcome.Goals as goal

pub returns-clause-steps : goal.returns-clause-steps
returns-clause-steps c count s leads =
    let of = stepped c.step_has_one_outcome.ensures.refusal c.step_has_one_outcome.ensures.state count s leads in
    one_of_steps c.steps_are_determined.ensures count s of.t of.refusal of.steps

pub returns-clause-run : goal.returns-clause-run
returns-clause-run c limit s leads =
    let of =
    ran c.step_has_one_outcome.ensures.refusal c.step_has_one_outcome.ensures.state c.step_is_determined.ensures.refusal
    c.step_is_determined.ensures.state limit s leads in
    one_of_runs c.runs_are_determined.ensures limit s of.t of.made of.why of.run

pub returns-clause-trace : goal.returns-clause-trace
returns-clause-trace c count s leads =
    let of = stepped c.step_has_one_outcome.ensures.refusal c.step_has_one_outcome.ensures.state count s leads in
    one_of_traces c.steps_are_traced.ensures.described c.steps_are_traced.ensures.traced c.traces_are_determined.ensures count s of.t
    of.refusal
    of.steps
