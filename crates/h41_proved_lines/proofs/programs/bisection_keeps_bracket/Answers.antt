use Rattle.h41_proved_lines.proofs.Bisection.{halves_bracket}
use Rattle.h41_proved_lines.proofs.programs.bisection_keeps_bracket.Goals as goal

pub returns : goal.returns
returns c =
    halves_bracket c.decimal_is_its_nearest.ensures c.decimal_has_one_register.ensures.register c.one_list.ensures
    c.lists_are_determined.ensures.read
