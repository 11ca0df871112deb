use Rattle.std.proofs.Common.{sym, subst}
use Rattle.std.specs.Prelude.{pos}
use Rattle.h41_decimal.specs.Units.{units}
use Rattle.h41_decimal.specs.WholeParts.{IsFraction}
use Rattle.h41_decimal.proofs.Wholes.{zero_fraction}
use Rattle.h41_decimal.proofs.ten.Ten.fraction.Goals as goal

pub returns-in-Zero : goal.returns-in-Zero
returns-in-Zero c = subst (λ t. IsFraction (units t) (pos 0)) (sym c.in-Zero.is) zero_fraction
