use Rattle.std.proofs.Common.{ap, refl}
use Rattle.h41_positions.specs.LabelledMachine.{machine_of}
use Rattle.h41_focal.proofs.RowApplied.{row_failed}
use Rattle.h41_focal.proofs.RowDone.{row_done}
use Rattle.h41_focal.proofs.ValueComputed.{value_computed}
use Rattle.h41_rows.specs.Places.{Named, X}
use Rattle.h41_rows.specs.Values.{OfTwo}
use Rattle.h41_focal.specs.private.Works.{register_use_row}
use Rattle.h41_focal.specs.declared.uses.RegisterUse.TheVariants as registers
use Rattle.h41_focal.specs.declared.outcome.LineOutcome.TheVariants as outcomes
use Rattle.h41_ram.specs.RamState.{RamState}
use Rattle.h41_focal.proofs.register_lines.combine.Goals as goal

pub returns-in-Ok-clause-done : goal.returns-in-Ok-clause-done
returns-in-Ok-clause-done g c =
    row_done _ (register_use_row (registers.Combine c.args.value)) c.args.address _
    _ _ c.in-Ok.register outcomes.Done _ _ (ap machine_of c.machine.view_is) refl
    (let worked = c.compute_of_two.ensures c.machine.inside.ram.registers c.args.address Named X refl refl refl in
    value_computed _ c.args.address (register_use_row (registers.Combine c.args.value)) (OfTwo c.args.value Named X) _ refl refl
    (rw c.in-Ok.is at worked))
    refl (ap (λ (ram : RamState). ram.registers) c.write.ensures.written) c.go_on_lifting.ensures.state

pub returns-in-Err-clause-done : goal.returns-in-Err-clause-done
returns-in-Err-clause-done g c =
    row_failed _ (register_use_row (registers.Combine c.args.value)) c.args.address _ _ _ _ c.in-Err.fault _
    (ap machine_of c.machine.view_is)
    (let worked = c.compute_of_two.ensures c.machine.inside.ram.registers c.args.address Named X refl refl refl in
    value_computed _ c.args.address (register_use_row (registers.Combine c.args.value)) (OfTwo c.args.value Named X) _ refl refl
    (rw c.in-Err.is at worked))
    c.fail.ensures.done
