use Rattle.h41_xrom.proofs.TypedLines.{typed_lines}
use Rattle.h41_xrom.proofs.laws.typed_as_stepped.Goals as goal

pub returns : goal.returns
returns c = typed_lines c.typed_as_stepped.ensures.here c.typed_as_stepped.ensures.same
