use Rattle.h41_ram.proofs.Writes.{put_beside, put_at_end}
use Rattle.h41_ram.proofs.ram.Ram.put_main.Goals as goal
use Rattle.h41_ram.proofs.ram.Ram.put_main.Goals.{then-index-from, else-index-from}

pub invariant_of-self : goal.invariant_of-self
invariant_of-self g c =
    elim c.if-index-from.branch [
      | then-index-from w ↦ rw w.self-inside-is
          (put_at_end _ (record { status = c.self.inside.status; main = c.self.inside.main }) c.self.inside.parts
          w.ended_by-self-inside.result c.from.result c.args.index c.args.register c.self.invariant c.from.ensures
          w.if-index-from.true c.if-index.true w.ended_by-self-inside.ensures)
      | else-index-from w ↦ rw w.self-inside-is
          (put_beside _ (record { status = c.self.inside.status; main = c.self.inside.main }) c.self.inside.parts
          c.from.result c.args.index c.args.register c.self.invariant c.from.ensures w.if-index-from.false)
    ]
