use Rattle.h41_ram.proofs.FlagBits.{flag_of-with_flag}
use Rattle.h41_ram.proofs.laws.flag_is_read.Goals as goal

pub returns : goal.returns
returns c = flag_of-with_flag
