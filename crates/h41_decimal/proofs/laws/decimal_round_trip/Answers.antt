use Rattle.std.proofs.Common.{ap, ◌∙◌}
use Rattle.h41_decimal.specs.Holding.{worth}
use Rattle.h41_decimal.proofs.Same.{option_injective}
use Rattle.h41_decimal.proofs.laws.decimal_round_trip.Goals as goal

pub returns : goal.returns
returns c = option_injective c.from_reg.result c.args.number (c.from_reg.ensures ∙ ap worth c.to_reg.ensures)
