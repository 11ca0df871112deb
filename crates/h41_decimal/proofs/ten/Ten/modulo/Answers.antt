use Rattle.std.proofs.Common.{ap, Ok}
use Rattle.std.specs.Prelude.{pos}
use Rattle.h41_decimal.specs.Signs.{with_sign}
use Rattle.h41_decimal.specs.Units.{size, units}
use Rattle.h41_decimal.specs.declared.ten.Ten.TheVariants.{Zero}
use Rattle.h41_decimal.proofs.Tens.{size_pos}
use Rattle.h41_decimal.proofs.Floors.{modulo_by, rest_of_zero}
use Rattle.h41_decimal.proofs.ten.Ten.modulo.Goals as goal

pub returns-in-Zero-default : goal.returns-in-Zero-default
returns-in-Zero-default c =
    let a = c.in-Zero-default in
    rw a.is-1 (modulo_by c.args.self a.field-0-1 a.field-1-1 (pos 0) (Ok Zero)
    (ap units a.is-0) (rest_of_zero a.field-0-1 (size a.field-1-1) (size_pos a.field-1-1)))

pub returns-in-Nonzero-Nonzero : goal.returns-in-Nonzero-Nonzero
returns-in-Nonzero-Nonzero c =
    let a = c.in-Nonzero-Nonzero in
    rw a.is-1 (modulo_by c.args.self a.x_sign a.x (with_sign a.y_sign (size a.y)) c.modulo.result (ap units a.is-0) c.modulo.ensures)
