use Rattle.h41_codes.proofs.Broken.{broken_pair}
use Rattle.h41_codes.proofs.decoder.pair.Goals as goal

pub returns-then-bytes-lt2-clause-broken : goal.returns-then-bytes-lt2-clause-broken
returns-then-bytes-lt2-clause-broken c = broken_pair c.args.bytes.now c.requires.first c.if-bytes-lt2.true
