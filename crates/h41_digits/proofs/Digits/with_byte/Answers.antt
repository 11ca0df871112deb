use Rattle.h41_digits.proofs.Packed.{is_register, register-digits_of, put_byte}
use Rattle.h41_digits.proofs.Digits.with_byte.Goals as goal

pub invariant_of-result : goal.invariant_of-result
invariant_of-result g c = (
  c.self.invariant.0,
  (put_byte g.row.N c.self.inside.word c.with_bits.result c.args.k c.args.byte c.args.self.now c.self.view_is
      c.self.invariant.1 c.requires c.ranges.byte.fits (rw c.from.ensures at c.with_bits.ensures)).1,
)

pub returns-clause-changed : goal.returns-clause-changed
returns-clause-changed g c =
    (put_byte g.row.N c.self.inside.word c.with_bits.result c.args.k c.args.byte c.args.self.now c.self.view_is
    c.self.invariant.1 c.requires c.ranges.byte.fits (rw c.from.ensures at c.with_bits.ensures)).0

pub returns-clause-from : goal.returns-clause-from
returns-clause-from g c = (is_register g.row.N c.self.inside.word c.args.self.now c.self.view_is c.self.invariant.1).0

pub returns-clause-register : goal.returns-clause-register
returns-clause-register g c = register-digits_of g.row.N c.with_bits.result
