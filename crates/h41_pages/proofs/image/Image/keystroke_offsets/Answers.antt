use Rattle.std.proofs.Common.{◌∙◌, ◌+◌, sym, subst}
use Rattle.h41_pages.proofs.Offsets.{AreOffsets, keystroke_more, microcode_more}
use Rattle.h41_pages.proofs.image.Image.keystroke_offsets.Goals as goal
use Rattle.h41_pages.proofs.image.Image.keystroke_offsets.Goals.{then-is_keystroke, else-is_keystroke}

pub loop-entry-preserved : goal.loop-entry-preserved
loop-entry-preserved c =
    let words = c.args.self.now.words in
    let entry = c.loop-entry.entry in
    let before = c.loop-entry.invariant in
    let mark = sym c.is_keystroke.ensures in
    elim c.if-is_keystroke.branch [
      | then-is_keystroke w ↦
          rw w.offsets-is (subst (AreOffsets words (entry + 1)) (sym w.push.ensures.items)
          (keystroke_more words entry _ _ before (mark ∙ w.if-is_keystroke.true) w.entry_offset.ensures.offset
          w.entry_offset.ensures.bound))
      | else-is_keystroke w ↦ rw w.offsets-is (microcode_more words entry _ before (mark ∙ w.if-is_keystroke.false))
    ]
