use Rattle.h41_digits.proofs.Packed.{is_register, digit_read}
use Rattle.h41_digits.proofs.Digits.get.Goals as goal

pub returns-clause-digit : goal.returns-clause-digit
returns-clause-digit g c = digit_read g.row.N c.self.inside.word c.args.place c.args.self.now c.self.view_is c.requires

pub returns-clause-register : goal.returns-clause-register
returns-clause-register g c = (is_register g.row.N c.self.inside.word c.args.self.now c.self.view_is c.self.invariant.1).0
