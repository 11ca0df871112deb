use Rattle.std.proofs.Common.{rules, arith, length-drop}
use Rattle.h41_ends.proofs.Writing.{appends-front, whole_rest}
use Rattle.h41_ends.proofs.output.write_whole.Goals as goal

pub loop-written-preserved : goal.loop-written-preserved
loop-written-preserved g c =
    let within = rw (whole_rest, length-drop) at c.in-Ok.ensures.bound in (
      omega arith,
      search rules,
      appends-front _ _ _ c.args.bytes.now c.loop-written.written c.in-Ok.count c.loop-written.invariant.2 c.in-Ok.ensures.bytes,
    )
