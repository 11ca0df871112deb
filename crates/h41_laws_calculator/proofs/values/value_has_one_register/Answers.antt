use Rattle.std.proofs.Common.{rules}
use Rattle.h41_laws_calculator.proofs.Computed.{one_answer, one_register}
use Rattle.h41_laws_calculator.proofs.values.value_has_one_register.Goals as goal

pub returns-clause-computed : goal.returns-clause-computed
returns-clause-computed c = search (rules, one_register)

pub returns-clause-answered : goal.returns-clause-answered
returns-clause-answered c = search (rules, one_answer, one_register)
