use Rattle.std.proofs.Common.{ap, ◌∙◌, sym}
use Rattle.h41_xrom.specs.Calculator.{CalculatorState}
use Rattle.h41_debug.proofs.Advancing.{idle_stops, running_stops}
use Rattle.h41_debug.proofs.bench.Bench.stop.Goals as goal

pub returns-in-Idle : goal.returns-in-Idle
returns-in-Idle g c =
    idle_stops _ c.args.self.now.state c.if-not-stepped.false
    (sym (c.mode.ensures ∙ ap (λ (s : CalculatorState). s.mode) c.calculator.ensures.state) ∙ c.in-Idle.is)

pub returns-in_default : goal.returns-in_default
returns-in_default g c =
    running_stops _ c.args.self.now.state c.mode.result c.if-not-stepped.false
    (c.mode.ensures ∙ ap (λ (s : CalculatorState). s.mode) c.calculator.ensures.state) c.in_default.not-Idle _ c.stop_at_breakpoint.ensures
