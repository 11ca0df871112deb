use Rattle.std.proofs.Common.{ap, refl, rules, ◌∙◌}
use Rattle.std.specs.Prelude.{is_ok}
use Rattle.std.proofs.lemmas.Result.{err_from_is_err_and}
use Rattle.h41_positions.specs.LabelledMachine.{machine_of}
use Rattle.h41_xrom.proofs.Accepted.{acted_when}
use Rattle.h41_xrom.proofs.Keying.{key_done, key_failed, key_lost}
use Rattle.h41_xrom.proofs.KeysKept.{action_kept, lost_kept}
use Rattle.h41_xrom.specs.LabelledCalculator.{cache_of}
use Rattle.h41_focal.specs.Outcomes.{answer_of}
use Rattle.h41_xrom.specs.Calculator.{CalculatorState, after_answer}
use Rattle.h41_xrom.proofs.LabelsKept.{state_is}
use Rattle.h41_xrom.proofs.calculator.Calculator.accept.Goals as goal

pub act-requires : goal.act-requires
act-requires g c = (
  search rules,
  (acted_when c.args.action _ c.args.self.now.state (state_is c.self.view_is) (c.in_ok-check_memory.ensures) c.requires, c.self.invariant),
)

pub returns-in_err-check_memory-clause-key : goal.returns-in_err-check_memory-clause-key
returns-in_err-check_memory-clause-key g c =
    let p = err_from_is_err_and c.from_residual.result c.from_residual.ensures.1 in
    rw (p.1, p.2) (key_lost c.args.key c.args.input c.args.action c.args.self.now.state _ (c.in_err-check_memory.ensures))

pub returns-in_err-check_memory-clause-kept : goal.returns-in_err-check_memory-clause-kept
returns-in_err-check_memory-clause-kept g c =
    lost_kept _ c.args.action c.args.input c.args.self.now _ (c.in_err-check_memory.ensures)

pub returns-in-Ok-clause-key : goal.returns-in-Ok-clause-key
returns-in-Ok-clause-key g c =
    key_done c.args.key c.args.input c.args.action _ c.args.self.now.state _
    (machine_of c.act.new.machine) c.in-Ok.outcome (state_is c.self.view_is) (c.in_ok-check_memory.ensures)
    (c.in-Ok.ensures).effect
    (c.end_line.ensures.state
    ∙ ap (λ (s : CalculatorState). after_answer (answer_of s.nut.ram c.in-Ok.outcome) s) c.tell.ensures.state)

pub returns-in-Ok-clause-kept : goal.returns-in-Ok-clause-kept
returns-in-Ok-clause-kept g c =
    action_kept _ _ c.args.action c.args.input _ c.args.self.now c.end_line.new.self.cache (cache_of c.act.new.machine) c.self.view_is
    (c.in_ok-check_memory.ensures) (ap is_ok c.in-Ok.is) (c.end_line.ensures.cache ∙ c.tell.ensures.cache) c.act.ensures.kept

pub returns-in-Err-clause-key : goal.returns-in-Err-clause-key
returns-in-Err-clause-key g c =
    key_failed c.args.key c.args.input c.args.action _ c.args.self.now.state (machine_of c.act.new.machine) c.in-Err.refusal
    (state_is c.self.view_is)
    (c.in_ok-check_memory.ensures) (c.in-Err.ensures).effect (c.in-Err.ensures).unchanged

pub returns-in-Err-clause-kept : goal.returns-in-Err-clause-kept
returns-in-Err-clause-kept g c =
    action_kept _ _ c.args.action c.args.input _ c.args.self.now (cache_of c.act.new.machine) _ c.self.view_is
    (c.in_ok-check_memory.ensures) (ap is_ok c.in-Err.is) refl c.act.ensures.kept
