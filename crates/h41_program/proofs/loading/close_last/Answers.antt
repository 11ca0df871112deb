use Rattle.std.proofs.Common.{Ok, Err, refl, sym, ◌∙◌}
use Rattle.h41_program.specs.Edits.{before_end, with_last_end}
use Rattle.h41_program.proofs.ClosedRead.{close_leaves}
use Rattle.h41_program.proofs.Closings.{close_ok, close_sound, closed_some, open_err, open_ok, open_test}
use Rattle.h41_program.proofs.loading.close_last.Goals as goal

pub returns-clause-lines : goal.returns-clause-lines
returns-clause-lines g c =
    let packs = c.packed_program.ensures in
    let packer = c.in_ok-packer.packer in (
      packs.0,
      packs.1,
      close_ok c.args.ram.now.registers c.write.new.ram.registers (before_end packs.0) c.packed_program.result packer
          c.write.result packs.2 c.in_ok-packer.was
          (λ lines held. closed_some c.args.ram.now.registers c.write.new.ram.registers c.write.result lines
          (sym (open_test packer lines c.is_open.result held c.is_open.ensures) ∙ c.if-not-is_open.false)
          (c.write.ensures.lines (with_last_end lines) (c.close.ensures lines held))),
    )

pub returns-clause-sound : goal.returns-clause-sound
returns-clause-sound g c =
    close_sound c.args.ram.now.registers c.write.new.ram.registers c.write.result c.requires (returns-clause-lines g c)

pub returns-clause-read : goal.returns-clause-read
returns-clause-read g c =
    close_leaves c.changes_are_read.ensures.closed c.args.ram.now.registers c.write.new.ram.registers c.write.result
    (returns-clause-lines g c)

pub returns-in_err-packer-clause-marked : goal.returns-in_err-packer-clause-marked
returns-in_err-packer-clause-marked g c =
    let packs = c.packed_program.ensures in (
      Err c.in_err-packer.field-0.0,
      (
        packs.0,
        packs.1,
        open_err (before_end packs.0) c.packed_program.result c.in_err-packer.field-0.0 packs.2 c.in_err-packer.was,
      ),
      refl,
    )

pub returns-then-not-is_open-clause-marked : goal.returns-then-not-is_open-clause-marked
returns-then-not-is_open-clause-marked g c =
    let packs = c.packed_program.ensures in (
      Ok c.is_open.result,
      (
        packs.0,
        packs.1,
        open_ok (before_end packs.0) c.packed_program.result c.in_ok-packer.packer c.is_open.result packs.2 c.in_ok-packer.was
            c.is_open.ensures,
      ),
      rw c.if-not-is_open.true refl,
    )

pub returns-clause-marked : goal.returns-clause-marked
returns-clause-marked g c =
    let packs = c.packed_program.ensures in (
      Ok c.is_open.result,
      (
        packs.0,
        packs.1,
        open_ok (before_end packs.0) c.packed_program.result c.in_ok-packer.packer c.is_open.result packs.2 c.in_ok-packer.was
            c.is_open.ensures,
      ),
      rw c.if-not-is_open.false c.write.ensures.marked,
    )
