use Rattle.std.proofs.Common.{ap}
use Rattle.h41_commands.specs.private.Contents.{values_in}
use Rattle.h41_deck.proofs.Commanded.{loads_taken}
use Rattle.h41_deck.proofs.replies.load.Goals as goal

pub returns-in-Ok-clause-loads : goal.returns-in-Ok-clause-loads
returns-in-Ok-clause-loads g c =
    loads_taken c.args.block c.args.bench.now.state _ c.in-Ok.bytes.items c.in_ok-bytes.field-0
    c.load_bytes.result (c.in_ok-bytes.ensures).bytes (ap values_in c.in-Ok.is)
    (rw c.deref.ensures.value at c.load_bytes.ensures)
