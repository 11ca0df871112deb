use Rattle.h41_debug.proofs.trace.text_at.Goals as goal

pub returns-in-Line : goal.returns-in-Line
returns-in-Line g c = rw c.in-Line.is (rw (c.pages-in-Line.ensures, c.ram.ensures.registers) at c.line_text.ensures)
