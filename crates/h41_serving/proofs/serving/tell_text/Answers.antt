use Rattle.h41_serving.proofs.Reported.{written_tells}
use Rattle.h41_serving.proofs.serving.tell_text.Goals as goal

pub returns : goal.returns
returns g c =
    let written = rw c.as_bytes.ensures.value at c.write_text.ensures in
    written_tells c.write_text.result g.E.Sink c.args.faults.now c.write_text.new.writer c.args.text.now
    written.text written.front written.flushed written.mark
