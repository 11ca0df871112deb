use Rattle.std.proofs.Common.{sym}
use Rattle.h41_digits.proofs.Packed.{is_register}
use Rattle.h41_digits.proofs.Digits.to_u64.Goals as goal

pub returns-clause-value : goal.returns-clause-value
returns-clause-value g c = sym (is_register g.row.N c.self.inside.word c.args.self.now c.self.view_is c.self.invariant.1).1

pub returns-clause-register : goal.returns-clause-register
returns-clause-register g c = (is_register g.row.N c.self.inside.word c.args.self.now c.self.view_is c.self.invariant.1).0
