use Rattle.std.proofs.lemmas.Nat.{and_le_r}
use Rattle.h41_digits.proofs.Packed.{is_register}
use Rattle.h41_digits.proofs.Spans.{span_read}
use Rattle.h41_digits.proofs.Digits.in_span.Goals as goal

pub returns-clause-digits : goal.returns-clause-digits
returns-clause-digits g c =
    let span = c.args.span in
    span_read g.row.N c.self.inside.word span.lo span.hi span.mask c.args.self.now c.self.view_is span.ordered c.requires span.weights

pub returns-clause-within : goal.returns-clause-within
returns-clause-within g c = and_le_r c.self.inside.word c.args.span.mask

pub returns-clause-register : goal.returns-clause-register
returns-clause-register g c = (is_register g.row.N c.self.inside.word c.args.self.now c.self.view_is c.self.invariant.1).0
