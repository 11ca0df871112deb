use Rattle.h41_rows.proofs.ValueLaws.{always_determined, one_determined, test_determined, two_determined}
use Rattle.h41_rows.proofs.laws.results_are_determined.Goals as goal

pub returns-clause-one : goal.returns-clause-one
returns-clause-one c =
    one_determined
    c.nearest_is_determined.ensures c.nearest_root_is_determined.ensures
    c.parts_are_determined.ensures.integer c.parts_are_determined.ensures.fraction
    c.numbers_are_determined.ensures c.units_are_injective.ensures
    c.quotients_are_determined.ensures.quotient c.quotients_are_determined.ensures.modulo
    c.steps_are_determined.ensures c.register_is_determined.ensures

pub returns-clause-two : goal.returns-clause-two
returns-clause-two c =
    two_determined
    c.nearest_is_determined.ensures c.nearest_root_is_determined.ensures
    c.parts_are_determined.ensures.integer c.parts_are_determined.ensures.fraction
    c.numbers_are_determined.ensures c.units_are_injective.ensures
    c.quotients_are_determined.ensures.quotient c.quotients_are_determined.ensures.modulo
    c.steps_are_determined.ensures c.register_is_determined.ensures

pub returns-clause-always : goal.returns-clause-always
returns-clause-always c =
    always_determined
    c.nearest_is_determined.ensures c.nearest_root_is_determined.ensures
    c.parts_are_determined.ensures.integer c.parts_are_determined.ensures.fraction
    c.numbers_are_determined.ensures c.units_are_injective.ensures
    c.quotients_are_determined.ensures.quotient c.quotients_are_determined.ensures.modulo
    c.steps_are_determined.ensures c.register_is_determined.ensures

pub returns-clause-test : goal.returns-clause-test
returns-clause-test c = test_determined
