use Rattle.std.proofs.Common.{arith, ◌-◌, length, drop, take_all, length-drop}
use Rattle.h41_focal.proofs.RowDone.{text_appends, text_replaces}
use Rattle.h41_focal.proofs.alpha_lines.appended.Goals as goal

pub returns-in-127-clause-appends : goal.returns-in-127-clause-appends
returns-in-127-clause-appends c =
    rw (take_all (length c.args.text.now - 1) (drop 1 c.args.text.now) (omega (arith, length-drop 1 c.args.text.now)))
    (text_appends c.args.text.now (omega arith) (omega arith))

pub returns-in_default-clause-replaces : goal.returns-in_default-clause-replaces
returns-in_default-clause-replaces c = λ some. text_replaces c.args.text.now some (λ first. omega arith)
