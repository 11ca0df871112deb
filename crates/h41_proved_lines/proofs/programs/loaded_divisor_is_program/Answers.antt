use Rattle.h41_proved_lines.proofs.LoadedDivisor.{gcd_is_first, gcd_is_loaded}
use Rattle.h41_proved_lines.proofs.programs.loaded_divisor_is_program.Goals as goal

pub returns-clause-loaded : goal.returns-clause-loaded
returns-clause-loaded c =
    gcd_is_loaded c.changes_are_read.ensures.loaded c.changes_are_read.ensures.shut c.lists_are_determined.ensures.read

pub returns-clause-first : goal.returns-clause-first
returns-clause-first c =
    gcd_is_first c.changes_are_read.ensures.loaded c.lists_are_determined.ensures.read c.lists_are_determined.ensures.lines
