use Rattle.h41_codes.proofs.Broken.{broken_af_b0}
use Rattle.h41_codes.proofs.decoder.front.Goals as goal

pub returns-in-Nothing-clause-broken : goal.returns-in-Nothing-clause-broken
returns-in-Nothing-clause-broken c =
    broken_af_b0 c.args.bytes.now c.in-Nothing.ensures.kind.0 c.in-Nothing.ensures.kind.1
