use Rattle.h41_proved_lines.proofs.ExactSums.{exact_sum_returns}
use Rattle.h41_proved_lines.proofs.programs.exact_sum_of_registers.Goals as goal

pub returns : goal.returns
returns c =
    exact_sum_returns c.decimal_is_its_nearest.ensures c.units_are_injective.ensures c.decimal_has_one_register.ensures.register
    c.one_list.ensures c.lists_are_determined.ensures.read
