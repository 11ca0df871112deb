use Rattle.std.proofs.Common.{arith, rules, true, ◌≡◌, false, Some, None, refl, sym, ap, ◌∙◌}
use Rattle.h41_xrom.specs.declared.calculator.Mode.TheVariants.{Run}
use Rattle.h41_xrom.specs.Calculator.{CalculatorState}
use Rattle.h41_debug.specs.Bench.{BenchState}
use Rattle.h41_debug.proofs.Advancing.{all_steps, clear_in_program, ends_piece, line_refuses, line_steps, next_fits}
use Rattle.h41_debug.proofs.Advancing.{one_more, refused_piece, same, up_to}
use Rattle.h41_debug.proofs.CacheInTurn as cache
use Rattle.h41_debug.specs.LabelledBench.{calculator_of}
use Rattle.h41_debug.proofs.bench.Bench.lines.Goals as goal

pub returns-in-Err-clause-steps : goal.returns-in-Err-clause-steps
returns-in-Err-clause-steps g c =
    let s = c.loop-made.self.state.calculator in
    refused_piece _ _ _ _ _ _ _ c.loop-made.invariant.0 c.loop-made.invariant.3 c.loop-made.invariant.1 c.loop-made-test.true
    (line_refuses s.mode s (Some c.in-Err.refusal) c.loop-made.invariant.2 (c.in-Err.ensures).refusal) (c.in-Err.ensures).unchanged

pub returns-in_default-clause-steps : goal.returns-in_default-clause-steps
returns-in_default-clause-steps g c =
    let s = c.loop-made.self.state.calculator in
    ends_piece c.step_is_determined.ensures.refusal c.step_is_determined.ensures.state _ _ _ _ _ _ c.loop-made.invariant.0
    c.loop-made.invariant.3 c.loop-made.auto.made c.loop-made.invariant.1 c.loop-made-test.true
    (line_refuses s.mode s None c.loop-made.invariant.2 (c.in-Ok.ensures).refusal)
    (line_steps s.mode s c.step_line.new.self.state.calculator c.loop-made.invariant.2 (c.in-Ok.ensures).change) c.step_line.ensures.others

pub returns-in-Some-clause-steps : goal.returns-in-Some-clause-steps
returns-in-Some-clause-steps g c =
    let s = c.loop-made.self.state.calculator in
    ends_piece c.step_is_determined.ensures.refusal c.step_is_determined.ensures.state _ _ _ _ _ _ c.loop-made.invariant.0
    c.loop-made.invariant.3 c.loop-made.auto.made c.loop-made.invariant.1 c.loop-made-test.true
    (line_refuses s.mode s None c.loop-made.invariant.2 (c.in-Ok.ensures).refusal)
    (line_steps s.mode s c.step_line.new.self.state.calculator c.loop-made.invariant.2 (c.in-Ok.ensures).change) c.step_line.ensures.others

pub loop-made-preserved : goal.loop-made-preserved
loop-made-preserved g c =
    let s = c.loop-made.self.state.calculator in
    let steps = line_steps s.mode s c.step_line.new.self.state.calculator c.loop-made.invariant.2 (c.in-Ok.ensures).change in
    let kept = ap (λ (at : BenchState). at.breakpoints) c.step_line.ensures.others ∙ c.loop-made.invariant.3 in
    let mode : c.step_line.new.self.state.calculator.mode ≡ Run =
    sym (c.mode.ensures ∙ ap (λ (s : CalculatorState). s.mode) c.calculator.ensures.state) ∙ c.in-Run.is in (
      one_more c.step_is_determined.ensures.refusal c.step_is_determined.ensures.state _ _ _ _ _ _ c.loop-made.invariant.0
          c.loop-made.invariant.1 c.loop-made-test.true
          (line_refuses s.mode s None c.loop-made.invariant.2 (c.in-Ok.ensures).refusal) steps c.step_line.ensures.others,
      clear_in_program _ c.step_line.new.self.state mode (sym c.stop_at_breakpoint.ensures ∙ c.in-None.is),
      rw mode refl,
      kept,
      (λ start begun. cache.one_more c.loop-made.made start (calculator_of c.loop-made.self) (calculator_of c.step_line.new.self)
          (c.loop-made.invariant.4 start begun) steps
          (cache.line_is_step true (calculator_of c.loop-made.self) (calculator_of c.step_line.new.self) c.loop-made.invariant.2
          c.step_line.ensures.kept)),
    )

pub loop-made-init : goal.loop-made-init
loop-made-init g c = ((λ start begun. begun), c.requires.clear, c.requires.mode, refl, (λ start begun. begun))

pub overflow_add-result : goal.overflow_add-result
overflow_add-result g c = next_fits _ _ _ c.loop-made-test.true (same _) c.ranges.limit

pub overflow_add-result-in-Some : goal.overflow_add-result-in-Some
overflow_add-result-in-Some g c = next_fits _ _ _ c.loop-made-test.true (same _) c.ranges.limit

pub stop_at_breakpoint-requires : goal.stop_at_breakpoint-requires
stop_at_breakpoint-requires g c = (
  search rules,
  λ unwatched.
      rw (ap (λ (at : BenchState). at.breakpoints) c.step_line.ensures.others ∙ c.loop-made.invariant.3) (c.requires.free unwatched),
)

pub returns-clause-steps : goal.returns-clause-steps
returns-clause-steps g c =
    all_steps _ _ _ _ _ _ c.loop-made.invariant.0 c.loop-made.invariant.3 c.loop-made-test.false
    (c.loop-made.auto.made-end (up_to _ _ c.requires.below)) (same _) c.requires.below

pub returns-in-Err-clause-kept : goal.returns-in-Err-clause-kept
returns-in-Err-clause-kept g c start begun =
    let s = c.loop-made.self.state.calculator in
    cache.one_tried c.loop-made.made start (calculator_of c.loop-made.self) (calculator_of c.step_line.new.self) c.in-Err.refusal
    (c.loop-made.invariant.4 start begun) (line_refuses s.mode s (Some c.in-Err.refusal) c.loop-made.invariant.2 (c.in-Err.ensures).refusal)
    (ap (λ (at : BenchState). at.calculator) (c.in-Err.ensures).unchanged)
    (cache.line_is_step false (calculator_of c.loop-made.self) (calculator_of c.step_line.new.self) c.loop-made.invariant.2
    c.step_line.ensures.kept)

pub returns-in_default-clause-kept : goal.returns-in_default-clause-kept
returns-in_default-clause-kept g c start begun =
    let s = calculator_of c.loop-made.self in
    let t = calculator_of c.step_line.new.self in
    cache.one_more c.loop-made.made start s t (c.loop-made.invariant.4 start begun)
    (line_steps s.state.mode s.state t.state c.loop-made.invariant.2 (c.in-Ok.ensures).change)
    (cache.line_is_step true s t c.loop-made.invariant.2 c.step_line.ensures.kept)

pub returns-in-Some-clause-kept : goal.returns-in-Some-clause-kept
returns-in-Some-clause-kept g c start begun =
    let s = calculator_of c.loop-made.self in
    let t = calculator_of c.step_line.new.self in
    cache.one_more c.loop-made.made start s t (c.loop-made.invariant.4 start begun)
    (line_steps s.state.mode s.state t.state c.loop-made.invariant.2 (c.in-Ok.ensures).change)
    (cache.line_is_step true s t c.loop-made.invariant.2 c.step_line.ensures.kept)

pub returns-clause-kept : goal.returns-clause-kept
returns-clause-kept g c start begun =
    let all : c.loop-made.made ≡ c.args.limit =
    omega (arith, c.loop-made-test.false, c.loop-made.auto.made-end (up_to _ _ c.requires.below)) in
    rw (← all) (c.loop-made.invariant.4 start begun)
