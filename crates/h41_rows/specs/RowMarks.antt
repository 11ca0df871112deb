-- The dirty flag of memory after this crate's functions. They write status registers and data
-- registers, none of which contains programs if memory is sound.
use Rattle.std.specs.Prelude.{◌≡◌, ℕ, IsFalse, IsTrue}
use Rattle.h41_ram.specs.RamState.{RamState, sets_mark}
use Rattle.h41_ram.specs.RegisterMap.{RegisterMap, is_sound}

-- If memory was sound, the dirty flag is unchanged.
abbrev pub LeavesMark : (old new : RamState) → Type 0
LeavesMark old new = IsTrue (is_sound old.registers) → new.touched ≡ old.touched

-- A write at this address does not set the dirty flag.
abbrev pub IsApart : RegisterMap → ℕ → Type 0
IsApart memory address = IsFalse (sets_mark memory address)
