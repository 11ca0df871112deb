use Rattle.std.proofs.lemmas.Map.Text.{hash_map_updates_str}
use Rattle.h41_asm.proofs.assembler.note.Goals as goal

pub returns-clause-added : goal.returns-clause-added
returns-clause-added c = hash_map_updates_str c.args.name.now c.args.labels.now c.insert.new.self _ c.in_ok-before.ensures.updates
