use Rattle.std.proofs.Common.{refl}
use Rattle.h41_codes.proofs.Broken.{broken_at, text_broken}
use Rattle.h41_codes.proofs.decoder.text.Goals as goal

pub returns-in-None-clause-broken : goal.returns-in-None-clause-broken
returns-in-None-clause-broken c =
    broken_at 15 0xF0 0x100 c.args.bytes.now refl c.requires.first.0 c.requires.first.1
    (text_broken c.args.bytes.now c.requires.some c.requires.first.0 c.in-None.ensures.none)
