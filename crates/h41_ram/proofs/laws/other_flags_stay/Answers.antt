use Rattle.h41_ram.proofs.FlagBits.{flag_of-with_flag_other}
use Rattle.h41_ram.proofs.laws.other_flags_stay.Goals as goal

pub returns : goal.returns
returns c = flag_of-with_flag_other
