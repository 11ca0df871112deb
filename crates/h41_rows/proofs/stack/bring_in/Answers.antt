use Rattle.std.proofs.Common.{◌∙◌, ap, rules}
use Rattle.h41_ram.specs.RamState.{RamState}
use Rattle.h41_rows.proofs.Lifts.{in_lifted, in_x}
use Rattle.h41_rows.proofs.MarksLeft.{none_yet, then_status}
use Rattle.h41_rows.proofs.stack.bring_in.Goals as goal
use Rattle.h41_rows.proofs.stack.bring_in.Goals.{then-lift, else-lift}

pub returns-clause-change : goal.returns-clause-change
returns-clause-change g c named =
    ap (λ (ram : RamState). ram.registers) c.set_status_register.ensures.written
    ∙ (elim c.if-lift.branch [
      | then-lift w ↦
          in_lifted c.args.ram.now.registers c.if-lift.ram.registers named c.args.register c.args.lift
          w.if-lift.true (ap (λ (ram : RamState). ram.registers) w.ram-is ∙ w.enter.ensures.change c.args.register named)
      | else-lift w ↦ in_x c.args.ram.now.registers c.if-lift.ram.registers named c.args.register c.args.lift w.if-lift.false
          (ap (λ (ram : RamState). ram.registers) w.ram-is)
    ])

pub returns-clause-left : goal.returns-clause-left
returns-clause-left g c = search (rules, then-lift, else-lift, none_yet, then_status)
