use Rattle.std.proofs.Common.{◌∙◌}
use Rattle.h41_nut.proofs.StatusNumbers.{contains_bit}
use Rattle.h41_nut.proofs.cpu.Cpu.is_status_set.Goals as goal

pub returns : goal.returns
returns c = rw (← c.self.view_is) (rw c.named.ensures.weight at (c.contains.ensures tt) ∙ contains_bit c.self.inside.status.0 c.args.bit)
