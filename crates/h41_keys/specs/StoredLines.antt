-- Lines that keys store in program memory.
use Rattle.std.specs.Prelude.{Bool, true, false, IsTrue, ⊤}
use Rattle.h41_codes.specs.declared.line.Line.{Line}
use Rattle.h41_codes.specs.declared.line.Line.TheVariants.{Null, FinalEnd}
use Rattle.h41_keys.specs.declared.action.Action.{Action}
use Rattle.h41_keys.specs.declared.action.Action.TheVariants.{Insert, Replace}

-- A line that a program can contain: neither a null nor .END.
abbrev pub is_storable : Line → Bool
is_storable Null = false
is_storable (FinalEnd link marks) = false
is_storable line = true

-- The line that an action stores can be stored.
abbrev pub StoresLine : Action → Type 0
StoresLine (Insert line) = IsTrue (is_storable line)
StoresLine (Replace line) = IsTrue (is_storable line)
StoresLine other = ⊤
