use Rattle.h41_reasoning_lines.proofs.Loads.{first_loaded_is_program, loaded_is_program, parts_are_programs}
use Rattle.h41_reasoning_lines.proofs.lines.loaded_lines_are_program.Goals as goal

pub returns-clause-loaded : goal.returns-clause-loaded
returns-clause-loaded c =
    loaded_is_program c.changes_are_read.ensures.loaded c.changes_are_read.ensures.shut c.lists_are_determined.ensures.read

pub returns-clause-first : goal.returns-clause-first
returns-clause-first c =
    first_loaded_is_program c.changes_are_read.ensures.loaded c.lists_are_determined.ensures.read c.lists_are_determined.ensures.lines

pub returns-clause-parts : goal.returns-clause-parts
returns-clause-parts c = parts_are_programs
