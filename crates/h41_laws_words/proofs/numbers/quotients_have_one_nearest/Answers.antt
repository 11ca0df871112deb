use Rattle.h41_laws_words.proofs.Answering.{has_one, quotient, modulo}
use Rattle.h41_laws_words.proofs.numbers.quotients_have_one_nearest.Goals as goal

pub returns-clause-quotient : goal.returns-clause-quotient
returns-clause-quotient c x y = has_one (quotient x y) (c.quotients_are_determined.ensures.quotient x y)

pub returns-clause-modulo : goal.returns-clause-modulo
returns-clause-modulo c y x = has_one (modulo y x) (c.quotients_are_determined.ensures.modulo y x)
