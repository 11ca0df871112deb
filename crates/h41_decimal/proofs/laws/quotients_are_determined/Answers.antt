use Rattle.h41_decimal.proofs.Answered.{quotient_determined, modulo_determined}
use Rattle.h41_decimal.proofs.laws.quotients_are_determined.Goals as goal

pub returns-clause-quotient : goal.returns-clause-quotient
returns-clause-quotient c = quotient_determined

pub returns-clause-modulo : goal.returns-clause-modulo
returns-clause-modulo c = modulo_determined
