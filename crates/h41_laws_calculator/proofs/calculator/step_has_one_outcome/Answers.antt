use Rattle.std.proofs.Common.{rules}
use Rattle.h41_laws_calculator.proofs.Stepping.{one_outcome, one_refusal, one_state}
use Rattle.h41_laws_calculator.proofs.calculator.step_has_one_outcome.Goals as goal

pub returns-clause-refusal : goal.returns-clause-refusal
returns-clause-refusal c = one_refusal c.line_has_one_end.ensures c.step_is_determined.ensures.refusal

pub returns-clause-state : goal.returns-clause-state
returns-clause-state c = one_state c.line_has_one_end.ensures c.word_has_one_answer.ensures.accepted c.step_is_determined.ensures.state

pub returns-clause-outcome : goal.returns-clause-outcome
returns-clause-outcome c = search (rules, one_outcome, one_refusal, one_state)
