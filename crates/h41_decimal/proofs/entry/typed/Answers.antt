-- The digits, rounded at their scale, are the nearest decimal of the exact value.
use Rattle.std.proofs.Common.{◌+◌, ◌-◌, ◌<◌, refl, arith, Ok, Err}
use Rattle.h41_decimal.proofs.Entries.{typed_nearest, typed_zero}
use Rattle.h41_decimal.proofs.entry.typed.Goals as goal

pub returns-then-digits-eq0 : goal.returns-then-digits-eq0
returns-then-digits-eq0 c = typed_zero c.args.sign c.args.digits c.args.places c.args.exponent c.if-digits-eq0.true

pub returns-in-Ok : goal.returns-in-Ok
returns-in-Ok c =
    let some : 0 < c.args.digits = omega (arith, c.if-digits-eq0.false) in
    record {
      answer = Ok c.in-Ok.number;
      nearest =
          typed_nearest c.args.sign c.args.digits c.args.exponent.biased
          c.args.places c.args.digits (137 + c.args.exponent.biased - c.from.result)
          (Ok c.in-Ok.number) some (omega arith) refl c.in-Ok.ensures;
      value = refl;
    }

pub returns-in-Err : goal.returns-in-Err
returns-in-Err c =
    let some : 0 < c.args.digits = omega (arith, c.if-digits-eq0.false) in
    record {
      answer = Err c.in-Err.field-0;
      nearest =
          typed_nearest c.args.sign c.args.digits c.args.exponent.biased
          c.args.places c.args.digits (137 + c.args.exponent.biased - c.from.result)
          (Err c.in-Err.field-0) some (omega arith) refl c.in-Err.ensures;
      value = c.greatest.ensures;
    }
