use Rattle.std.proofs.Common.{Some, ap, refl, ◌∙◌}
use Rattle.h41_focal.specs.Outcomes.{answer_of}
use Rattle.h41_positions.specs.LabelledMachine.{machine_of}
use Rattle.h41_xrom.proofs.LabelsKept.{line_kept, state_is}
use Rattle.h41_xrom.proofs.Stepping.{line_accepted, line_changes, line_refused}
use Rattle.h41_xrom.proofs.calculator.Calculator.step_line.Goals as goal
use Rattle.h41_xrom.specs.Calculator.{CalculatorState, after_answer}
use Rattle.h41_xrom.specs.LabelledCalculator.{cache_of}

pub returns-in-Ok-clause-refusal : goal.returns-in-Ok-clause-refusal
returns-in-Ok-clause-refusal g c =
    line_accepted _ c.args.self.now.state (machine_of c.step.new.self) c.in-Ok.outcome (state_is c.self.view_is) (c.in-Ok.ensures).line

pub returns-in-Ok-clause-change : goal.returns-in-Ok-clause-change
returns-in-Ok-clause-change g c =
    line_changes _ c.args.self.now.state _ (machine_of c.step.new.self) c.in-Ok.outcome (state_is c.self.view_is) (c.in-Ok.ensures).line
    (c.end_line.ensures.state
    ∙ ap (λ (s : CalculatorState). after_answer (answer_of s.nut.ram c.in-Ok.outcome) s) c.end_entry.ensures.state)

pub returns-in-Ok-clause-kept : goal.returns-in-Ok-clause-kept
returns-in-Ok-clause-kept g c =
    line_kept _ c.args.self.now _ (cache_of c.step.new.self) c.self.view_is (c.end_line.ensures.cache ∙ c.end_entry.ensures.cache)
    ((c.in-Ok.ensures).kept, (c.in-Ok.ensures).clear)

pub returns-in-Err-clause-refusal : goal.returns-in-Err-clause-refusal
returns-in-Err-clause-refusal g c =
    line_refused _ c.args.self.now.state (machine_of c.step.new.self) c.in-Err.refusal _ (state_is c.self.view_is) (c.in-Err.ensures).line
    (ap Some c.into.ensures)

pub returns-in-Err-clause-kept : goal.returns-in-Err-clause-kept
returns-in-Err-clause-kept g c =
    line_kept _ c.args.self.now _ (cache_of c.step.new.self) c.self.view_is refl ((c.in-Err.ensures).kept, (c.in-Err.ensures).clear)
