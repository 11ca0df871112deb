use Rattle.h41_decimal.proofs.modulo.+remainder.Given as goal

abbrev pub decreases-remainder : goal.decreases-remainder
decreases-remainder l = l.power
