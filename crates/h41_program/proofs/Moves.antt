-- The numbers with which the size of memory changes: they fit, and there is a place to which the programs can move, or none.
use Rattle.std.proofs.Common.{◌≡◌, ℕ, ◌+◌, ◌-◌, ◌<◌, ◌≤◌, true, length, sym, ◌∙◌, ap, arith}
use Rattle.h41_ram.specs.RegisterMap.{RegisterMap, IsMemory, main_start, top_of, curtain_of, end_of, is_sound}
use Rattle.h41_program.specs.Size.{moved_curtain, with_size}
use Rattle.h41_program.proofs.Resized.{Fits as FitsMemory}

-- The parts of a memory that are read when its size changes.
pub record Sized (memory : RegisterMap) (registers curtain end : ℕ) : Type 0 where
  pub memory_is : IsMemory registers memory
  pub sound : is_sound memory ≡ true
  pub curtain_is : curtain ≡ curtain_of memory
  pub end_is : end ≡ end_of memory

pub sized_by : (memory : RegisterMap) (registers curtain end : ℕ) → IsMemory registers memory → is_sound memory ≡ true
    → curtain ≡ curtain_of memory → end ≡ end_of memory → Sized memory registers curtain end
sized_by memory registers curtain end is sound curtain_is end_is =
    record { memory_is = is; sound = sound; curtain_is = curtain_is; end_is = end_is }

module _ (memory : RegisterMap) (registers size curtain end : ℕ) (sized : Sized memory registers curtain end) where
  -- The size is not too large.
  module _ (read : ℕ) (same : read ≡ size) (below : read < registers) where
    is_small : size < length memory.main
    is_small = omega (arith, sized.memory_is.main, same, below)

    moved_is : moved_curtain memory size ≡ main_start + registers - size
    moved_is = ap (λ n. main_start + n - size) sized.memory_is.main

    -- There is room.
    pub fits_there : (new : RegisterMap) → main_start + curtain ≤ main_start + registers - size + end
        → new ≡ with_size memory (top_of memory - (main_start + registers - size)) → FitsMemory memory size new
    fits_there new room change =
        let again : size ≡ top_of memory - (main_start + registers - size) = omega (arith, sized.memory_is.main, same, below) in
        record {
          small = is_small;
          room = omega (arith, moved_is, room, sized.curtain_is, sized.end_is);
          same = change ∙ ap (with_size memory) (sym again);
        }
