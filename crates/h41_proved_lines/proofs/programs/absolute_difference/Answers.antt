use Rattle.h41_proved_lines.proofs.AbsoluteDifference.{absolute_difference}
use Rattle.h41_proved_lines.proofs.programs.absolute_difference.Goals as goal

pub returns : goal.returns
returns c =
    absolute_difference c.decimal_is_its_nearest.ensures c.decimal_has_one_register.ensures.register c.one_list.ensures
