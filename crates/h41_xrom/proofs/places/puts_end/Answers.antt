use Rattle.std.proofs.Common.{Err, Ok, refl, sym, ◌∙◌}
use Rattle.h41_xrom.proofs.ShownPlace.{lost_puts_none}
use Rattle.h41_xrom.proofs.places.puts_end.Goals as goal

pub returns-then-not-is_sound : goal.returns-then-not-is_sound
returns-then-not-is_sound g c = lost_puts_none c.args.ram.now.registers (sym c.is_sound.ensures ∙ c.if-not-is_sound.true)

pub returns-in-Ok : goal.returns-in-Ok
returns-in-Ok g c = (Ok c.in-Ok.«open», c.in-Ok.ensures, refl)

pub returns-in-Err : goal.returns-in-Err
returns-in-Err g c = (Err c.in-Err.field-0, c.in-Err.ensures, refl)
