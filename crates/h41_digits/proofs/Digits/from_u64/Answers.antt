use Rattle.std.proofs.Common.{refl}
use Rattle.h41_digits.specs.Packed.{value-digits_of}
use Rattle.h41_digits.proofs.Packed.{fits_from_shift, shift_from_fits, register-digits_of}
use Rattle.h41_digits.proofs.Digits.from_u64.Goals as goal

pub invariant_of-result : goal.invariant_of-result
invariant_of-result g c = (c.requires, fits_from_shift g.row.N c.args.number c.if-number-eq0.true)

pub returns-then-number-eq0-clause-fits : goal.returns-then-number-eq0-clause-fits
returns-then-number-eq0-clause-fits g c = (λ _. fits_from_shift g.row.N c.args.number c.if-number-eq0.true, λ _. refl)

pub returns-then-number-eq0-clause-value : goal.returns-then-number-eq0-clause-value
returns-then-number-eq0-clause-value g c =
    value-digits_of g.row.N c.args.number (fits_from_shift g.row.N c.args.number c.if-number-eq0.true)

pub returns-then-number-eq0-clause-register : goal.returns-then-number-eq0-clause-register
returns-then-number-eq0-clause-register g c = register-digits_of g.row.N c.args.number

pub returns-else-number-eq0-clause-fits : goal.returns-else-number-eq0-clause-fits
returns-else-number-eq0-clause-fits g c = (λ e. cc, λ small. absurd (c.if-number-eq0.false (shift_from_fits g.row.N c.args.number small)))
