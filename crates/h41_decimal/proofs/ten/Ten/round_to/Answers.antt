use Rattle.std.proofs.Common.{◌-◌, ◌<◌, arith}
use Rattle.h41_decimal.specs.Operations.{step_of}
use Rattle.h41_decimal.specs.declared.places.Places.{Places}
use Rattle.h41_decimal.specs.declared.places.Places.TheVariants.{Decimals, Digits}
use Rattle.h41_decimal.specs.declared.ten.Ten.TheVariants.{Zero}
use Rattle.h41_decimal.proofs.Nearest.{ten_pow_pos}
use Rattle.h41_decimal.proofs.Steps.{zero_rounds}
use Rattle.h41_decimal.proofs.ten.Ten.round_to.Goals as goal

step_pos : (places : Places) → 0 < step_of places Zero
step_pos (Decimals count) = ten_pow_pos (108 - count)
step_pos (Digits count) = omega arith

pub returns-in-Zero : goal.returns-in-Zero
returns-in-Zero c = rw c.in-Zero.is (zero_rounds (step_of c.args.places Zero) (step_pos c.args.places))
