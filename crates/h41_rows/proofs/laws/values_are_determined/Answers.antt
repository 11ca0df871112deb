use Rattle.h41_rows.proofs.ValueLaws.{values_determined}
use Rattle.h41_rows.proofs.laws.values_are_determined.Goals as goal

pub returns : goal.returns
returns c =
    values_determined
    c.nearest_is_determined.ensures c.nearest_root_is_determined.ensures
    c.parts_are_determined.ensures.integer c.parts_are_determined.ensures.fraction
    c.numbers_are_determined.ensures c.units_are_injective.ensures
    c.quotients_are_determined.ensures.quotient c.quotients_are_determined.ensures.modulo
    c.steps_are_determined.ensures c.register_is_determined.ensures
