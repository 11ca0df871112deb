use Rattle.h41_codes.proofs.Beginnings.{answers_line, answers_broken}
use Rattle.h41_codes.proofs.decoder.decode.Goals as goal

pub returns-clause-line : goal.returns-clause-line
returns-clause-line c = answers_line c.args.bytes.now _ c.front.ensures.line c.front.ensures.broken

pub returns-clause-broken : goal.returns-clause-broken
returns-clause-broken c = answers_broken c.args.bytes.now _ c.front.ensures.line c.front.ensures.broken
