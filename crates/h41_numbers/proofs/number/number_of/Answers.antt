use Rattle.h41_numbers.proofs.NumberParts.{number_is}
use Rattle.h41_numbers.proofs.number.number_of.Goals as goal

pub returns : goal.returns
returns c =
    number_is c.args.text.now c.exponent_part.result.now c.exponent_place-end.result c.sign_of.result c.mantissa_digits-digits.result.number
    c.mantissa_digits-digits.result.count c.decimal_places-places.result c.exponent_of-exponent.result c.typed.result
    c.exponent_place-end.ensures.place c.sign_of.ensures c.mantissa_digits-digits.ensures.number c.mantissa_digits-digits.ensures.count
    c.decimal_places-places.ensures.value c.exponent_part.ensures c.exponent_of-exponent.ensures c.typed.ensures
