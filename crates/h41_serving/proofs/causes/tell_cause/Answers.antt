use Rattle.std.proofs.Common.{codes, ◌++◌}
use Rattle.h41_serving.proofs.Reported.{tells_on_both}
use Rattle.h41_serving.proofs.causes.tell_cause.Goals as goal

pub returns : goal.returns
returns g c =
    let cause = c.as_str.result.now in
    let file = c.args.file.now in
    let ended = tells_on_both g.E.Sink c.tell_on-4.new.faults c.tell_on-5.new.faults c.tell_on-6.new.faults cause (codes "\n")
    c.tell_on-5.ensures c.tell_on-6.ensures in
    let said = tells_on_both g.E.Sink c.tell_on-3.new.faults c.tell_on-4.new.faults c.tell_on-6.new.faults
    (codes ": ") (cause ++ codes "\n") c.tell_on-4.ensures ended in
    let named = tells_on_both g.E.Sink c.tell_on-2.new.faults c.tell_on-3.new.faults c.tell_on-6.new.faults file
    (codes ": " ++ (cause ++ codes "\n")) c.tell_on-3.ensures said in
    let parted = tells_on_both g.E.Sink c.tell_on.new.faults c.tell_on-2.new.faults c.tell_on-6.new.faults (codes ": ")
    (file ++ (codes ": " ++ (cause ++ codes "\n"))) c.tell_on-2.ensures named in (
      cause,
      tells_on_both g.E.Sink c.args.faults.now c.tell_on.new.faults c.tell_on-6.new.faults (codes "bench")
          (codes ": " ++ (file ++ (codes ": " ++ (cause ++ codes "\n")))) c.tell_on.ensures parted,
    )
