use Rattle.std.proofs.Common.{ap, ◌∙◌, ℕ, option_map}
use Rattle.std.proofs.lemmas.Result.{err_from_is_err_and}
use Rattle.h41_xrom.specs.declared.calculator.Calculator.TheInside.{Inside}
use Rattle.h41_xrom.proofs.LabelsStay.{right_over, right_with}
use Rattle.h41_xrom.proofs.Loading.{load_done, load_failed, load_refused}
use Rattle.h41_nut.specs.WordStep.{nut_of}
use Rattle.h41_xrom.specs.Calculator.{CalculatorState}
use Rattle.h41_xrom.proofs.LabelsKept.{state_is}
use Rattle.h41_xrom.proofs.calculator.Calculator.load.Goals as goal

-- The view of an opened calculator.
abbrev viewed : {n : ℕ} → Inside n → CalculatorState
viewed inside = record {
  nut = nut_of inside.cpu inside.machine.ram.registers inside.pages inside.keys;
  focal = inside.machine.focal.state;
  input = inside.input;
  message = option_map (λ text. text.bytes) inside.message;
  mode = inside.mode;
}

pub returns-in_err-check_change-clause-load : goal.returns-in_err-check_change-clause-load
returns-in_err-check_change-clause-load g c =
    let p = err_from_is_err_and c.from_residual.result c.from_residual.ensures.1 in
    rw (p.1, p.2) (load_refused c.args.bytes.now c.args.self.now.state _ (c.in_err-check_change.ensures))

pub returns-in_err-start-clause-load : goal.returns-in_err-start-clause-load
returns-in_err-start-clause-load g c =
    let p = err_from_is_err_and c.from_residual-in_err-start.result c.from_residual-in_err-start.ensures.1 in
    rw (p.1, p.2) (load_failed c.args.bytes.now _ c.args.self.now.state c.load.new.ram.registers _
    (ap viewed c.self-inside.view_is ∙ state_is c.self.view_is) (c.in_ok-check_change.ensures) (c.in_err-start.ensures).lines)

pub returns-clause-load : goal.returns-clause-load
returns-clause-load g c =
    load_done c.args.bytes.now _ c.args.self.now.state c.load.new.ram.registers c.in_ok-start.start
    c.halt_at.new.self.state (ap viewed c.self-inside.view_is ∙ state_is c.self.view_is) c.halt_at.ensures.state
    (c.in_ok-check_change.ensures) (c.in_ok-start.ensures).lines

pub invariant_of-self : goal.invariant_of-self
invariant_of-self g c =
    right_over c.kept_answers_stay_right.ensures.keeping c.self.inside.machine _ c.load.new.ram
    (ap (λ (inside : Inside g.row.REGS). inside.machine) c.self-inside.view_is) c.load.ensures.mark c.self.invariant

pub invariant_of-self-2 : goal.invariant_of-self-2
invariant_of-self-2 g c =
    right_with c.kept_answers_stay_right.ensures.keeping c.self.inside.machine _ c.load.new.ram c.halt_at.new.self.labels
    (ap (λ (inside : Inside g.row.REGS). inside.machine) c.self-inside.view_is) c.load.ensures.mark c.halt_at.ensures.labels
    c.self.invariant
