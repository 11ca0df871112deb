use Rattle.h41_pages.proofs.Offsets.{AreOffsets}
use Rattle.h41_pages.proofs.image.Image.keystroke_offsets.Given as goal

-- The keystroke functions of the entries so far.
abbrev pub invariant-loop-entry : goal.invariant-loop-entry
invariant-loop-entry l = AreOffsets l.self.words l.entry l.offsets.items
