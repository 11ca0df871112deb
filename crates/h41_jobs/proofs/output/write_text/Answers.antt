use Rattle.h41_jobs.proofs.InputLemmas.{all_written_on_err}
use Rattle.h41_jobs.proofs.output.write_text.Goals as goal

pub returns-clause-front : goal.returns-clause-front
returns-clause-front g c =
    all_written_on_err c.flush.result _ _ _ c.args.text.now c.in_ok-write_whole.ensures.written c.flush.ensures.bytes
