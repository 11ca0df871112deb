use Rattle.h41_proved_lines.proofs.GreatestCommonDivisor.{greatest_common_divisor}
use Rattle.h41_proved_lines.proofs.programs.greatest_common_divisor.Goals as goal

pub returns : goal.returns
returns c =
    greatest_common_divisor c.decimal_is_its_nearest.ensures c.units_are_injective.ensures c.register_is_determined.ensures
    c.decimal_has_one_register.ensures.register c.one_list.ensures c.lists_are_determined.ensures.read
