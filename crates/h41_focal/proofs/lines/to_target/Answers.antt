use Rattle.std.proofs.Common.{Ok}
use Rattle.h41_focal.proofs.OutsideCalls.{row_carries_whole}
use Rattle.h41_positions.specs.LabelledMachine.{machine_of}
use Rattle.h41_rows.specs.LineRows.{to_label}
use Rattle.h41_focal.proofs.lines.to_target.Goals as goal

pub returns-in-Label-clause-done : goal.returns-in-Label-clause-done
returns-in-Label-clause-done g c = λ named. rw c.in-Label.is
    (row_carries_whole c.args.pages.now c.args.origin (to_label c.args.branch c.in-Label.label) named (machine_of c.args.machine.now)
    (machine_of c.to_label.new.machine) (Ok c.to_label.result) (c.to_label.ensures.done named))

pub returns-in-Name-clause-done : goal.returns-in-Name-clause-done
returns-in-Name-clause-done g c = λ named. rw c.in-Name.is (c.to_name.ensures.done named)
