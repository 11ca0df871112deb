use Rattle.std.proofs.Common.{Err, Ok, sym, ◌∙◌}
use Rattle.h41_xrom.proofs.ShownPlace.{final_of_lost, final_of_none, final_of_sound}
use Rattle.h41_xrom.proofs.places.is_final_at.Goals as goal

pub returns-in_default : goal.returns-in_default
returns-in_default g c = (Err c.in_default.field-0, c.in_default.ensures, final_of_none c.args.ram.now.registers)

pub returns-then-is_sound : goal.returns-then-is_sound
returns-then-is_sound g c = (
  Ok c.in-Ok.first,
  c.in-Ok.ensures,
  final_of_sound c.args.ram.now.registers _ _ (sym c.is_sound.ensures ∙ c.if-is_sound.true) c.is_final_end.ensures,
)

pub returns-else-is_sound : goal.returns-else-is_sound
returns-else-is_sound g c = (
  Ok c.in-Ok.first,
  c.in-Ok.ensures,
  final_of_lost c.args.ram.now.registers _ _ (sym c.is_sound.ensures ∙ c.if-is_sound.false) c.if-is_sound.false,
)
