use Rattle.std.proofs.Common.{rules}
use Rattle.h41_laws_calculator.proofs.Keyed.{one_key}
use Rattle.h41_laws_calculator.proofs.calculator.key_has_one_outcome.Goals as goal

pub returns : goal.returns
returns c = search (rules, one_key)
