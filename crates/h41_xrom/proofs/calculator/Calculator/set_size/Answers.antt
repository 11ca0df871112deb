use Rattle.std.proofs.Common.{ap, ◌∙◌, ℕ, option_map}
use Rattle.std.proofs.lemmas.Result.{err_from_is_err_and}
use Rattle.h41_xrom.specs.declared.calculator.Calculator.TheInside.{Inside}
use Rattle.h41_xrom.proofs.LabelsStay.{right_over}
use Rattle.h41_xrom.proofs.Loading.{size_done, size_failed}
use Rattle.h41_nut.specs.WordStep.{nut_of}
use Rattle.h41_xrom.specs.Calculator.{CalculatorState}
use Rattle.h41_xrom.proofs.LabelsKept.{state_is}
use Rattle.h41_xrom.proofs.calculator.Calculator.set_size.Goals as goal

-- The view of an opened calculator.
abbrev viewed : {n : ℕ} → Inside n → CalculatorState
viewed inside = record {
  nut = nut_of inside.cpu inside.machine.ram.registers inside.pages inside.keys;
  focal = inside.machine.focal.state;
  input = inside.input;
  message = option_map (λ text. text.bytes) inside.message;
  mode = inside.mode;
}

pub returns-in_err-set_size-clause-size : goal.returns-in_err-set_size-clause-size
returns-in_err-set_size-clause-size g c =
    let p = err_from_is_err_and c.from_residual-in_err-set_size.result c.from_residual-in_err-set_size.ensures.1 in
    rw (p.1, p.2)
    (size_failed c.args.count _ c.args.self.now.state c.set_size.new.ram.registers c.in_err-set_size.field-0.0
    (ap viewed c.self-inside.view_is ∙ state_is c.self.view_is) (c.in_ok-check_change.ensures) (c.in_err-set_size.ensures).size)

pub returns-clause-size : goal.returns-clause-size
returns-clause-size g c =
    size_done c.args.count _ c.args.self.now.state c.end_entry.new.self.state c.set_size.new.ram.registers c.in_ok-set_size.field-0
    (ap viewed c.self-inside.view_is ∙ state_is c.self.view_is) (c.in_ok-check_change.ensures) (c.in_ok-set_size.ensures).size
    c.end_entry.ensures.state

pub invariant_of-self : goal.invariant_of-self
invariant_of-self g c =
    right_over c.kept_answers_stay_right.ensures.keeping c.self.inside.machine _ c.set_size.new.ram
    (ap (λ (inside : Inside g.row.REGS). inside.machine) c.self-inside.view_is) c.set_size.ensures.mark c.self.invariant
