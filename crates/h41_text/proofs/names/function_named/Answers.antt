use Rattle.h41_text.proofs.PlacedNames.{functions_are_placed}
use Rattle.h41_text.proofs.names.function_named.Goals as goal

pub function_among-requires : goal.function_among-requires
function_among-requires c = functions_are_placed
