use Rattle.std.proofs.Common.{arith}
use Rattle.h41_show.proofs.Powers.{power_pos}
use Rattle.h41_show.proofs.number.push_steps.Goals as goal

pub nonzero_div-whole : goal.nonzero_div-whole
nonzero_div-whole c = let some = power_pos c.args.steps.decimals in omega arith
