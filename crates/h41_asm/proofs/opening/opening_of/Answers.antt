use Rattle.h41_asm.proofs.OpeningEntries.{is_table}
use Rattle.h41_asm.proofs.opening.opening_of.Goals as goal

pub opening_among-requires : goal.opening_among-requires
opening_among-requires c = is_table
