use Rattle.std.proofs.Common.{sym}
use Rattle.h41_commands.proofs.KeptBytes.{keeps_row, stays_wrong, takes_row}
use Rattle.h41_commands.proofs.blocks.image_bytes.ImageBytes.add_line.Goals as goal
use Rattle.h41_commands.proofs.blocks.image_bytes.ImageBytes.add_line.Goals.{then-not-self+in_ok-keep-in-Some, else-not-self}

pub returns-after-not-self : goal.returns-after-not-self
returns-after-not-self c = λ lines e.
    let row = rw c.in-Some.is at c.in_ok-bytes.ensures in
    let old = c.args.self.now in
    let bytes = c.in-Some.bytes.items in
    takes_row lines c.args.line.now bytes _ _ (sym c.if-is_skipped.ensures) row
    (elim c.if-not-self.branch [
      | then-not-self+in_ok-keep-in-Some w ↦
          rw w.self-is
          (keeps_row old w.keep.new.self bytes w.if-not-self.true (rw w.deref.ensures.value at w.in_ok-keep-in-Some.ensures))
      | else-not-self w ↦ rw w.self-is (stays_wrong old bytes w.if-not-self.false)
    ])
    e
