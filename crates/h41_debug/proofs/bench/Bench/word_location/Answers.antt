use Rattle.h41_debug.proofs.Locations.{word_running}
use Rattle.h41_debug.proofs.bench.Bench.word_location.Goals as goal

pub returns : goal.returns
returns g c = word_running _ _ _ c.calculator.ensures.state c.requires (rw c.cpu.ensures at c.pc.ensures)
