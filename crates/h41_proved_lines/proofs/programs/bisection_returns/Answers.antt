use Rattle.h41_proved_lines.proofs.BisectionLoop.{bisection_returns}
use Rattle.h41_proved_lines.proofs.programs.bisection_returns.Goals as goal

pub returns : goal.returns
returns c =
    bisection_returns c.decimal_is_its_nearest.ensures c.decimal_has_one_register.ensures.register c.one_list.ensures
    c.lists_are_determined.ensures.read c.fraction_has_one_nearest.ensures
