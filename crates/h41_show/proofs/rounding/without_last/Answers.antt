use Rattle.std.proofs.Common.{◌+◌, ◌/◌, ap, ◌∙◌, arith}
use Rattle.h41_show.proofs.Powers.{power_pos}
use Rattle.h41_show.proofs.Roundings.{nearest-half}
use Rattle.h41_show.proofs.rounding.without_last.Goals as goal

pub nonzero_div-result-2 : goal.nonzero_div-result-2
nonzero_div-result-2 c = let some = power_pos c.args.dropped in omega arith

pub returns : goal.returns
returns c = ap (λ p. (c.args.digits + p / 2) / p) c.power_of_ten-step.ensures ∙ nearest-half c.args.digits c.args.dropped
