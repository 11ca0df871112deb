use Rattle.h41_laws_calculator.proofs.WholeStates.{plugs_whole, unplugs_whole}
use Rattle.h41_laws_calculator.proofs.states.pages_leave_whole.Goals as goal

pub returns-clause-plug : goal.returns-clause-plug
returns-clause-plug c = plugs_whole

pub returns-clause-unplug : goal.returns-clause-unplug
returns-clause-unplug c = unplugs_whole
