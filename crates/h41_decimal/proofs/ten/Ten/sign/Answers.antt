use Rattle.std.proofs.Common.{ap, ◌∙◌, sym}
use Rattle.h41_decimal.specs.Signs.{sign_of}
use Rattle.h41_decimal.specs.Units.{size, units}
use Rattle.h41_decimal.proofs.Steps.{sign_of-signed}
use Rattle.h41_decimal.proofs.Tens.{size_pos}
use Rattle.h41_decimal.proofs.ten.Ten.sign.Goals as goal

pub returns-in-Nonzero : goal.returns-in-Nonzero
returns-in-Nonzero c =
    sym (ap (λ t. sign_of (units t)) c.in-Nonzero.is
    ∙ sign_of-signed c.in-Nonzero.sign (size c.in-Nonzero.field-1) (size_pos c.in-Nonzero.field-1))
