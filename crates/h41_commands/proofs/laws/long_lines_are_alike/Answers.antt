use Rattle.h41_commands.proofs.ToldCommands.{told_commands}
use Rattle.h41_commands.proofs.laws.long_lines_are_alike.Goals as goal

pub returns : goal.returns
returns c = told_commands
