use Rattle.h41_positions.proofs.page_code.PageCodePrograms.start_of.Goals as goal

pub returns-in-Some : goal.returns-in-Some
returns-in-Some c = rw (c.as_slice.ensures.value, c.keystroke_offsets-begins.ensures.offsets) at c.start_reaching.ensures
