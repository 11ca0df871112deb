use Rattle.std.proofs.Common.{ap}
use Rattle.h41_positions.specs.LabelledMachine.{machine_of}
use Rattle.h41_focal.proofs.RowDone.{text_done}
use Rattle.h41_focal.proofs.alpha_lines.text_line.Goals as goal

pub returns-clause-done : goal.returns-clause-done
returns-clause-done g c = λ named.
    text_done c.args.text.now _ named _ _ _ _ _ (ap machine_of c.machine.view_is)
    (let put = c.put_text.ensures.change named in rw c.characters.ensures.value at put) c.go_on_lifting.ensures.state
