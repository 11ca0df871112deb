use Rattle.h41_jobs.proofs.InputLemmas.{whole_input}
use Rattle.h41_jobs.proofs.input.read_input.Goals as goal

pub returns-then-input-clause-bytes : goal.returns-then-input-clause-bytes
returns-then-input-clause-bytes g c =
    whole_input _ _ _ c.in_ok-input.ensures.bytes c.in_ok-input.ensures.whole c.if-input.true
