-- What a memory stores about its register c and the register of .END.
use Rattle.std.specs.Prelude.{◌≡◌, ℕ, ◌-◌, Bool, ◌&&◌, ◌||◌, List, slice_index_or, nat_lt, nat_le}
use Rattle.std.specs.Prelude.{◌==◌, if◌then◌else◌}
use Rattle.h41_ram.specs.RegisterMap.{RegisterMap, zeros, main_start, top_of, c_of, curtain_of}
use Rattle.h41_ram.specs.RegisterMap.{end_of, three_digits, is_final_end, sound_constant}
use Rattle.h41_ram.specs.declared.parts.Parts.{Parts}

-- The register of main memory at an address, or zeros if there is none.
abbrev pub main_register : List (List ℕ) → ℕ → List ℕ
main_register main address =
    if nat_lt address main_start then zeros else slice_index_or main (address - main_start) zeros

-- Whether a register c contains the constant, and the addresses of the parts are in order, in a
-- memory whose first address after main memory is top.
abbrev pub is_ordered : List ℕ → ℕ → Bool
is_ordered c top =
    three_digits c 6 == sound_constant
    && (nat_le main_start (three_digits c 0)
    && nat_lt (three_digits c 0) (three_digits c 3)
    && nat_le (three_digits c 3) top)

-- The stored parts are those of the memory.
pub record AreKept (memory : RegisterMap) (parts : Parts) : Type 0 where
  pub curtain : parts.curtain ≡ curtain_of memory
  pub end : parts.end ≡ end_of memory
  pub ordered : parts.ordered ≡ is_ordered (c_of memory) (top_of memory)
  pub sound : parts.sound
      ≡ (parts.ordered && is_final_end (main_register memory.main (end_of memory)))

-- The dirty flag is set if it was set before, or if the condition holds.
abbrev pub with_touched : Parts → Bool → Parts
with_touched parts sets = record parts { touched = parts.touched || sets }
