use Rattle.std.proofs.Common.{Ok, ap, ◌∙◌}
use Rattle.h41_focal.specs.LineStep.{left_done}
use Rattle.h41_positions.specs.FocalState.{Machine, machine_with}
use Rattle.h41_positions.specs.LabelledMachine.{LabelledFocal, machine_of}
use Rattle.h41_xrom.specs.KeyActions.{with_number_started}
use Rattle.h41_xrom.proofs.typing.begin_number.Goals as goal

pub returns-clause-number : goal.returns-clause-number
returns-clause-number g c =
    let begun = λ (of : Machine). Ok (left_done (with_number_started of c.written.result)) in (
      c.written.result,
      c.written.ensures c.args.machine.now.ram.registers 0,
      rw (c.set_flag.ensures.written, c.bring_in.ensures.change 0)
          (ap (λ (focal : LabelledFocal). begun (machine_with c.machine.inside.ram.registers focal.state)) c.focal.view_is
          ∙ ap begun (ap machine_of c.machine.view_is)),
    )
