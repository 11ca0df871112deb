use Rattle.std.proofs.Common.{Ok}
use Rattle.h41_program.proofs.Moves.{sized_by, fits_there}
use Rattle.h41_program.proofs.Resized.{fits_outcome, resize_sound}
use Rattle.h41_program.proofs.size.set_size.Goals as goal

pub returns-clause-size : goal.returns-clause-size
returns-clause-size g c =
    let memory = c.args.ram.now.registers in
    let is = c.curtain-curtain.ensures in
    let sized = sized_by memory _ _ _ is.memory c.requires is.value c.end_register-end.ensures in
    fits_outcome memory c.resize.new.ram.registers c.args.size
    (fits_there memory _ c.args.size _ _ sized c.from.result c.from.ensures c.if-from.false
    c.resize.new.ram.registers c.if-new_curtain-end.false c.resize.ensures.change)

pub returns-clause-sound : goal.returns-clause-sound
returns-clause-sound g c = resize_sound c.args.ram.now.registers c.resize.new.ram.registers c.args.size (Ok tt) c.requires
    (returns-clause-size g c)
