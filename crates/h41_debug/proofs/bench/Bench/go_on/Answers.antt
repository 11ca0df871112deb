use Rattle.std.proofs.Common.{◌≡◌, false, ap, rules, sym, subst, ◌∙◌}
use Rattle.h41_xrom.specs.declared.calculator.Mode.{Mode}
use Rattle.h41_xrom.specs.Calculator.{CalculatorState}
use Rattle.h41_debug.proofs.Advancing.{no_function}
use Rattle.h41_debug.specs.private.Running.{runs_function}
use Rattle.h41_debug.proofs.bench.Bench.go_on.Goals as goal

-- The mode that was returned.
mode_of : (m : Mode) (told s : CalculatorState) → m ≡ told.mode → told ≡ s → m ≡ s.mode
mode_of m told s is same = is ∙ ap (λ (at : CalculatorState). at.mode) same

pub words-requires : goal.words-requires
words-requires g c =
    let mode = mode_of _ _ _ c.mode.ensures c.calculator.ensures.state in
    (search rules, (c.requires.below, (sym mode ∙ c.in-Micro.is, (c.requires.clear, c.requires.free))))

pub lines-requires : goal.lines-requires
lines-requires g c =
    let mode = mode_of _ _ _ c.mode.ensures c.calculator.ensures.state in
    let lines = subst (λ (m : Mode). runs_function m ≡ false) mode (no_function c.mode.result c.in_default.not-Micro) in
    (search rules, (c.requires.below, (lines, (c.requires.clear, c.requires.free))))
