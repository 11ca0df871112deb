use Rattle.h41_digits.proofs.Packed.{is_register, byte_read}
use Rattle.h41_digits.proofs.Digits.byte.Goals as goal

pub returns-clause-byte : goal.returns-clause-byte
returns-clause-byte g c = byte_read g.row.N c.self.inside.word c.args.k c.args.self.now c.self.view_is c.requires

pub returns-clause-register : goal.returns-clause-register
returns-clause-register g c = (is_register g.row.N c.self.inside.word c.args.self.now c.self.view_is c.self.invariant.1).0
