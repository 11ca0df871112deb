-- A set of breakpoints as the list of its members. Readers of the public contracts can skip this
-- file.
use Rattle.std.specs.Prelude.{◌≡◌, ◌==◌, ◌&&◌, Bool, List, length}
use Rattle.std.specs.FinSet.{from_list, len}
use Rattle.h41_breakpoints.specs.Breakpoints.{BreakpointSet, kind_of, location_number}
use Rattle.h41_breakpoints.specs.declared.location.Location.{Location}

-- Two locations are the same if they have the same kind and the same number.
abbrev pub is_same : Location → Location → Bool
is_same one other = (kind_of one == kind_of other) && (location_number one == location_number other)

-- The set of the members of a list.
abbrev pub set_of : List Location → BreakpointSet
set_of members = from_list members

-- A list has each of its members once if the set has as many members as the list.
abbrev pub IsEachOnce : List Location → Type 0
IsEachOnce members = len (set_of members) ≡ length members
