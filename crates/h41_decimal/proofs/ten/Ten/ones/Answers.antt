use Rattle.std.proofs.Common.{◌≡◌, ◌≤◌, ap, ◌∙◌, arith, Option, Some, None}
use Rattle.std.specs.Prelude.{IfNone, unsigned_abs}
use Rattle.h41_decimal.specs.Units.{size, units}
use Rattle.h41_decimal.proofs.Tens.{unsigned_abs-signed}
use Rattle.h41_decimal.proofs.Wholes.{many_ones}
use Rattle.h41_decimal.proofs.ten.Ten.ones.Goals as goal

where_none : {A : Type 0} (value : Option A) (P Q : Type 0) → (P → Q) → IfNone value P → IfNone value Q
where_none None P Q f p = f p
where_none (Some a) P Q f p = tt

pub returns-in-Nonzero-clause-many : goal.returns-in-Nonzero-clause-many
returns-in-Nonzero-clause-many c =
    let x = c.in-Nonzero.x in
    let e : unsigned_abs (units c.args.self) ≡ size x =
    ap (λ t. unsigned_abs (units t)) c.in-Nonzero.is ∙ unsigned_abs-signed c.in-Nonzero.field-0 (size x) in
    where_none c.ones.result (109 ≤ x.exponent.biased) _
    (λ (high : 109 ≤ x.exponent.biased). omega (arith, e, many_ones x.mantissa.digits x.exponent.biased x.mantissa.at_least high))
    c.ones.ensures.many
