-- The I/O errors of reading a line, as those of reading an item.
use Rattle.std.specs.Prelude.{Bool, true, false, Result, Ok, Err}
use Rattle.h41_ends.specs.declared.fault.LineReadFault.{LineReadFault}
use Rattle.h41_ends.specs.declared.fault.LineReadFault.TheVariants as line
use Rattle.h41_commands.specs.declared.fault.ItemFault.{ItemFault}
use Rattle.h41_commands.specs.declared.fault.ItemFault.TheVariants.{OutOfMemory, ReadFault}
use Rattle.h41_commands.specs.declared.fault.ItemFault.TheVariants.{WriteFault}

-- The error of an item is that of its line.
abbrev pub of_line : LineReadFault → ItemFault
of_line line.ReadFault = ReadFault
of_line line.WriteFault = WriteFault

-- The error is that the output could not be flushed.
abbrev pub is_of_write : ItemFault → Bool
is_of_write OutOfMemory = false
is_of_write ReadFault = false
is_of_write WriteFault = true

-- An item could not be read because the output could not be flushed.
abbrev pub is_write_fault : {A : Type 0} → Result A ItemFault → Bool
is_write_fault (Ok done) = false
is_write_fault (Err fault) = is_of_write fault
