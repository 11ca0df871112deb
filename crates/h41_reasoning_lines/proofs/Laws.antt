-- The laws on which proofs about programs rest, as lemmas: a proof that cites them needs no function that calls the laws.
use Rattle.std.proofs.Common.{◌∙◌, sym}
use Rattle.h41_codes.proofs.Beginnings.{one_line}
use Rattle.h41_codes.proofs.Deciding.{line_or_none}
use Rattle.h41_decimal.specs.Laws.{DecimalIsItsNearest, RegisterIsDetermined}
use Rattle.h41_decimal.specs.Units.{units}
use Rattle.h41_decimal.proofs.Answered.{quotient_determined}
use Rattle.h41_decimal.proofs.Determined.{nearest_determined}
use Rattle.h41_decimal.proofs.Held.{register_determined}
use Rattle.h41_decimal.proofs.Same.{units_injective}
use Rattle.h41_decimal.proofs.Tens.{own_nearest}
use Rattle.h41_laws_words.specs.DecimalAnswers.{DecimalHasOneRegister, FractionHasOneNearest, QuotientHasOneNearest, RegisterHoldsDecimal}
use Rattle.h41_laws_words.proofs.Answering.{has_one, nearest, quotient}
use Rattle.h41_laws_words.proofs.Writing.{from_register, in_register}
use Rattle.h41_program.specs.ProgramLaws.{OneList, ReadIsDetermined}
use Rattle.h41_program.proofs.Determined.{read_determined}
use Rattle.h41_program.proofs.Exists.{one_list}

-- The laws `decimal_is_its_nearest` and `register_is_determined` of h41_decimal.
pub itself : DecimalIsItsNearest
itself = own_nearest

pub determined : RegisterIsDetermined
determined = register_determined

-- The laws `decimal_has_one_register`, `fraction_has_one_nearest` and `quotients_have_one_nearest` of h41_laws_words.
pub registers : DecimalHasOneRegister
registers number =
    has_one (in_register number) (λ x y one other. register_determined (units number) x y one.valid other.valid one.holds other.holds)

pub decimals : RegisterHoldsDecimal
decimals register number is = has_one (from_register register number is) (λ x y one other. units_injective x y (one ∙ sym other))

pub fractions : FractionHasOneNearest
fractions above below some = has_one (nearest above below some) (nearest_determined above below)

pub quotients : QuotientHasOneNearest
quotients x y = has_one (quotient x y) (quotient_determined x y)

-- The laws `lists_are_determined` and `one_list` of h41_program.
pub one_reading : ReadIsDetermined
one_reading = read_determined one_line

pub lists : OneList
lists = one_list one_line line_or_none
