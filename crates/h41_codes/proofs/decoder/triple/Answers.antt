use Rattle.h41_codes.proofs.Broken.{broken_triple}
use Rattle.h41_codes.proofs.decoder.triple.Goals as goal

pub returns-then-bytes-lt3-clause-broken : goal.returns-then-bytes-lt3-clause-broken
returns-then-bytes-lt3-clause-broken c = broken_triple c.args.bytes.now c.requires.first.0 c.requires.first.1 c.if-bytes-lt3.true
