use Rattle.h41_digits.proofs.Packed.{is_register}
use Rattle.h41_digits.proofs.Parts.{all_read, number_read}
use Rattle.h41_digits.proofs.Digits.number.Goals as goal

pub returns-then-hi-lo-clause-number : goal.returns-then-hi-lo-clause-number
returns-then-hi-lo-clause-number g c =
    all_read g.row.N c.self.inside.word c.args.lo c.args.hi c.args.self.now c.self.view_is
    c.self.invariant.1 (c.requires.ordered, c.requires.in_register, c.if-hi-lo.true)

pub returns-then-hi-lo-clause-register : goal.returns-then-hi-lo-clause-register
returns-then-hi-lo-clause-register g c = (is_register g.row.N c.self.inside.word c.args.self.now c.self.view_is c.self.invariant.1).0

pub returns-clause-number : goal.returns-clause-number
returns-clause-number g c =
    number_read g.row.N c.self.inside.word c.args.lo c.args.hi c.args.self.now
    c.self.view_is c.self.invariant.0 c.requires.ordered c.requires.in_register

pub returns-clause-register : goal.returns-clause-register
returns-clause-register g c = (is_register g.row.N c.self.inside.word c.args.self.now c.self.view_is c.self.invariant.1).0
