use Rattle.std.proofs.Common.{ap, subst}
use Rattle.std.specs.Prelude.{OnOk}
use Rattle.std.specs.Result.{result_err}
use Rattle.h41_xrom.specs.Calculator.{CalculatorState, RefusesLine, StepsByLine, machine_of}
use Rattle.h41_debug.specs.LabelledBench.{LabelledBench, calculator_of}
use Rattle.h41_xrom.specs.KeptLabels.{KeepsAfterLine}
use Rattle.h41_xrom.specs.LabelledCalculator.{LabelledCalculator}
use Rattle.h41_focal.specs.OutsideCalls.{Program}
use Rattle.h41_debug.proofs.bench.Bench.step_line.Goals as goal

pub returns-clause-refusal : goal.returns-clause-refusal
returns-clause-refusal g c =
    subst (λ (s : CalculatorState). RefusesLine s (result_err c.step_line.result))
    (ap (λ (b : LabelledBench). b.state.calculator) c.self.view_is) (c.step_line.ensures).refusal

pub returns-clause-change : goal.returns-clause-change
returns-clause-change g c =
    subst (λ (s : CalculatorState). OnOk c.step_line.result (StepsByLine s c.step_line.new.self.state))
    (ap (λ (b : LabelledBench). b.state.calculator) c.self.view_is) (c.step_line.ensures).change

pub returns-clause-kept : goal.returns-clause-kept
returns-clause-kept g c =
    subst (λ (s : LabelledCalculator). KeepsAfterLine Program s.state.nut.pages (machine_of s.state) s.cache c.step_line.new.self.cache)
    (ap calculator_of c.self.view_is) c.step_line.ensures.kept
