use Rattle.h41_ram.proofs.Named.{data_read, others_data, data_keep_sound}
use Rattle.h41_ram.proofs.laws.data_are_read.Goals as goal

pub returns-clause-read : goal.returns-clause-read
returns-clause-read c = data_read

pub returns-clause-others : goal.returns-clause-others
returns-clause-others c = others_data

pub returns-clause-sound : goal.returns-clause-sound
returns-clause-sound c = data_keep_sound
