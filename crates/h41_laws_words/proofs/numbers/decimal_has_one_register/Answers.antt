use Rattle.std.proofs.Common.{◌∙◌, sym}
use Rattle.h41_decimal.specs.Units.{units}
use Rattle.h41_laws_words.proofs.Answering.{has_one}
use Rattle.h41_laws_words.proofs.Writing.{from_register, in_register}
use Rattle.h41_laws_words.proofs.numbers.decimal_has_one_register.Goals as goal

pub returns-clause-register : goal.returns-clause-register
returns-clause-register c number = has_one (in_register number) (λ x y one other.
    c.register_is_determined.ensures (units number) x y one.valid other.valid one.holds other.holds)

pub returns-clause-decimal : goal.returns-clause-decimal
returns-clause-decimal c register number is =
    has_one (from_register register number is) (λ x y one other. c.units_are_injective.ensures x y (one ∙ sym other))
