use Rattle.std.proofs.Common.{Ok, ap, ◌∙◌}
use Rattle.h41_focal.specs.LineStep.{left_done}
use Rattle.h41_positions.specs.LabelledMachine.{machine_of}
use Rattle.h41_positions.specs.FocalState.{Machine}
use Rattle.h41_ram.specs.RegisterMap.{RegisterMap}
use Rattle.h41_xrom.specs.KeyActions.{with_number_changed}
use Rattle.h41_xrom.proofs.typing.change_number.Goals as goal

pub returns-clause-number : goal.returns-clause-number
returns-clause-number g c = (
  c.written.result,
  c.written.ensures c.args.machine.now.ram.registers 0,
  ap (λ (of : RegisterMap). Ok (left_done (record { memory = of; focal = c.machine.inside.focal.state }))) (c.bring_in.ensures.change 0)
      ∙ ap (λ (of : Machine). Ok (left_done (with_number_changed of c.written.result))) (ap machine_of c.machine.view_is),
)
