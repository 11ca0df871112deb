-- The errors of a part, as those of the deck.
use Rattle.h41_ends.specs.declared.fault.InputFault.{InputFault}
use Rattle.h41_ends.specs.declared.fault.InputFault.TheVariants as input
use Rattle.h41_ends.specs.declared.fault.LineReadFault.{LineReadFault}
use Rattle.h41_ends.specs.declared.fault.LineReadFault.TheVariants as line
use Rattle.h41_commands.specs.declared.fault.ItemFault.{ItemFault}
use Rattle.h41_commands.specs.declared.fault.ItemFault.TheVariants as item
use Rattle.h41_refusals.specs.declared.fault.CommandFault.{CommandFault}
use Rattle.h41_refusals.specs.declared.fault.CommandFault.TheVariants as command
use Rattle.h41_refusals.specs.declared.fault.Fault.{Fault}
use Rattle.h41_refusals.specs.declared.fault.Fault.TheVariants.{OutOfMemory, ReadFault, WriteFault}

-- The error of a deck that an error of its input is.
abbrev pub of_input : InputFault → Fault
of_input input.OutOfMemory = OutOfMemory
of_input input.ReadFault = ReadFault

-- The error of a deck that an error of reading a line is.
abbrev pub of_line : LineReadFault → Fault
of_line line.ReadFault = ReadFault
of_line line.WriteFault = WriteFault

-- The error of a deck that an error of reading an item is.
abbrev pub of_item : ItemFault → Fault
of_item item.OutOfMemory = OutOfMemory
of_item item.ReadFault = ReadFault
of_item item.WriteFault = WriteFault

-- The error of a deck that an error of a command is.
abbrev pub of_command : CommandFault → Fault
of_command command.OutOfMemory = OutOfMemory
of_command command.WriteFault = WriteFault
