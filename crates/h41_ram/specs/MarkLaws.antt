-- What is true of the dirty flag of every memory, whatever the code does.
use Rattle.h41_ram.specs.RamState.{RamState, KeepsMark}

-- If nothing is written, the promise about the dirty flag holds.
abbrev pub MarkStays : Type 0
MarkStays = (ram : RamState) → KeepsMark ram ram

-- If two calls in turn keep the promise about the dirty flag, both together keep it.
abbrev pub MarkIsKeptInTurn : Type 0
MarkIsKeptInTurn =
    (old middle new : RamState) → KeepsMark old middle → KeepsMark middle new → KeepsMark old new
