use Rattle.h41_focal.proofs.ByItself.{stepped_by_itself, typed_by_itself}
use Rattle.h41_focal.proofs.laws.line_by_itself.Goals as goal

pub returns-clause-stepped : goal.returns-clause-stepped
returns-clause-stepped c = stepped_by_itself

pub returns-clause-typed : goal.returns-clause-typed
returns-clause-typed c = typed_by_itself
