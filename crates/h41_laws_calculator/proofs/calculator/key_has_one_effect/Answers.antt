use Rattle.h41_laws_calculator.proofs.Keyed.{one_pressed}
use Rattle.h41_laws_calculator.proofs.calculator.key_has_one_effect.Goals as goal

pub returns : goal.returns
returns g c = one_pressed c.key_is_determined.ensures c.args.key _ _ _ c.key.ensures.key
