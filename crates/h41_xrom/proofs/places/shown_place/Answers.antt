use Rattle.std.proofs.Common.{ap, ◌∙◌}
use Rattle.h41_positions.specs.LabelledMachine.{machine_of}
use Rattle.h41_positions.specs.FocalState.{machine_with}
use Rattle.h41_xrom.proofs.ShownPlace.{kept_at, kept_by, place_there}
use Rattle.h41_xrom.proofs.places.shown_place.Goals.{then-machine, else-machine}
use Rattle.h41_xrom.proofs.places.shown_place.Goals as goal

pub returns-after-machine : goal.returns-after-machine
returns-after-machine g c =
    let inner = c.machine-inside.view_is in
    place_there c.args.pages.now _ (machine_of c.args.machine.now) c.in-Page.address _ c.if-machine.result c.puts_end.result
    ((λ i. machine_with (inner i).ram.registers (inner i).focal.state) ∙ ap machine_of c.machine.view_is) c.in-Page.is
    c.is_final_at-is_final.ensures
    (elim c.if-machine.branch [
      | then-machine w ↦ kept_at _ _ _ w.result-is w.if-machine.true
      | else-machine w ↦ kept_by _ _ _ w.result-is w.if-machine.false
    ])
    c.puts_end.ensures
