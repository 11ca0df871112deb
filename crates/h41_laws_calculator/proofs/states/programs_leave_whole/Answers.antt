use Rattle.h41_laws_calculator.proofs.WholeStates.{call_whole, loads_whole, sizes_whole}
use Rattle.h41_laws_calculator.proofs.states.programs_leave_whole.Goals as goal

pub returns-clause-load : goal.returns-clause-load
returns-clause-load c = loads_whole

pub returns-clause-size : goal.returns-clause-size
returns-clause-size c = sizes_whole

pub returns-clause-call : goal.returns-clause-call
returns-clause-call c = call_whole
