-- Breakpoints are a finite set of locations. The limit of 16 and the refusals are this project's
-- choice.
use Rattle.std.specs.Prelude.{ℕ, Bool, not, ◌&&◌, nat_le}
use Rattle.std.specs.Ordering.{nat_cmp, on, then_cmp}
use Rattle.std.specs.FinSet.{FinSet, contains, empty, insert, len, remove}
use Rattle.std.specs.declared.cmp.Ordering.{Ordering}
use Rattle.h41_breakpoints.specs.declared.location.Location.{Location}
use Rattle.h41_breakpoints.specs.declared.location.Location.TheVariants.{Line, Word}
use Rattle.h41_positions.specs.declared.position.Position.TheVariants.{Memory, Page}

-- The kind of a location. Words are before lines of program memory, and these before lines of
-- pages.
abbrev pub kind_of : Location → ℕ
kind_of (Word address) = 0
kind_of (Line (Memory byte)) = 1
kind_of (Line (Page address)) = 2

-- The number of a location within its kind: its address, or its byte of program memory.
abbrev pub location_number : Location → ℕ
location_number (Word address) = address
location_number (Line (Memory byte)) = byte
location_number (Line (Page address)) = address

-- The order of locations: by their kinds, and locations of one kind by their numbers. Only equal
-- locations compare as equal.
abbrev pub location_cmp : Location → Location → Ordering
location_cmp = then_cmp (on kind_of nat_cmp) (on location_number nat_cmp)

-- A set of breakpoints.
abbrev pub BreakpointSet : Type 0
BreakpointSet = FinSet location_cmp

-- The set in which no breakpoint is set.
abbrev pub no_breakpoints : BreakpointSet
no_breakpoints = empty

-- Whether a breakpoint is set at a location.
abbrev pub is_set : BreakpointSet → Location → Bool
is_set set location = contains set location

-- The set after a breakpoint is added.
abbrev pub with_breakpoint : Location → BreakpointSet → BreakpointSet
with_breakpoint location set = insert set location

-- The set after a breakpoint is removed.
abbrev pub without_breakpoint : Location → BreakpointSet → BreakpointSet
without_breakpoint location set = remove set location

-- The most breakpoints that can be set.
abbrev pub most_breakpoints : ℕ
most_breakpoints = 16

-- A breakpoint is refused as BreakFull (19) if it is not set and 16 others are. One that is set is
-- never refused.
abbrev pub refuses_breakpoint : BreakpointSet → Location → Bool
refuses_breakpoint set location = not (is_set set location) && nat_le most_breakpoints (len set)

-- A breakpoint that is not set cannot be removed: NoBreak (20).
abbrev pub lacks_breakpoint : BreakpointSet → Location → Bool
lacks_breakpoint set location = not (is_set set location)
