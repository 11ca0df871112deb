use Rattle.h41_laws_calculator.proofs.Left.{one_of_keys}
use Rattle.h41_laws_calculator.proofs.runs.keys_have_one_outcome.Goals as goal

pub returns : goal.returns
returns g c = one_of_keys c.presses_are_determined.ensures c.args.keys.now _ _ _ c.press.ensures.keys
