use Rattle.std.specs.Prelude.{Ok}
use Rattle.h41_program.specs.Edits.{without_deleted}
use Rattle.h41_program.proofs.Inner.{deleted_inner}
use Rattle.h41_program.proofs.EditAnswers.{stands_before}
use Rattle.h41_program.proofs.Outcomes.{edit_read}
use Rattle.h41_program.proofs.editing.delete.Goals as goal

pub returns-clause-read : goal.returns-clause-read
returns-clause-read g c =
    edit_read c.byte_round_trip.ensures.again c.args.ram.now.registers c.change_at.new.ram.registers
    without_deleted c.args.at (Ok tt) c.requires deleted_inner c.in_ok-count.ensures.lines

pub returns-clause-answer : goal.returns-clause-answer
returns-clause-answer g c =
    let leaves = returns-clause-read g c in
    stands_before c.args.ram.now.registers c.change_at.new.ram.registers c.args.at c.in_ok-count.count
    c.in_ok-count.ensures.count leaves.listed leaves.read c.in_front.result
    (c.in_front.ensures leaves.listed leaves.read)
