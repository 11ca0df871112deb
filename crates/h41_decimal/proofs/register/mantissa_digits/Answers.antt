-- The digits are read by their number.
use Rattle.std.proofs.Common.{sym, ◌∙◌, arith}
use Rattle.h41_decimal.proofs.PackedDigits.{decimal_read}
use Rattle.h41_decimal.proofs.register.mantissa_digits.Goals as goal

pub returns-clause-value : goal.returns-clause-value
returns-clause-value c =
    c.unpacked.ensures
    ∙ sym (decimal_read c.args.register 3 10 c.number.result c.number.ensures.register (omega arith) (sym c.number.ensures.number))
