use Rattle.std.proofs.Common.{ap, ◌∙◌}
use Rattle.h41_digits.specs.Register.{hexadecimal_text}
use Rattle.h41_digits.specs.Packed.{digits_of, value-digits_of}
use Rattle.h41_digits.proofs.Values.{text-register}
use Rattle.h41_digits.proofs.Packed.{register-digits_of}
use Rattle.h41_digits.proofs.Digits.holding.Goals as goal

pub returns-clause-value : goal.returns-clause-value
returns-clause-value g c = value-digits_of g.row.N c.args.number c.requires.fits

pub returns-clause-text : goal.returns-clause-text
returns-clause-text g c =
    text-register g.row.N (digits_of g.row.N c.args.number) (register-digits_of g.row.N c.args.number)
    ∙ ap (hexadecimal_text g.row.N) (value-digits_of g.row.N c.args.number c.requires.fits)

pub returns-clause-register : goal.returns-clause-register
returns-clause-register g c = register-digits_of g.row.N c.args.number
