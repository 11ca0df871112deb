use Rattle.std.proofs.Common.{Some, refl}
use Rattle.h41_deck.proofs.replies.load_bytes.Goals as goal

pub returns-in-Err : goal.returns-in-Err
returns-in-Err g c = (Some c.in-Err.refusal, rw c.calculator_mut.ensures.value at c.in-Err.ensures.load, refl, refl)
