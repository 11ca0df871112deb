-- What a contract sees of a memory: its registers, and a dirty flag, which is set if its program
-- may have changed. The flag is this project's own: the calculator has none.
use Rattle.std.specs.Prelude.{◌≡◌, ℕ, ◌<◌, ◌≤◌, Bool, true, ◌&&◌, ◌||◌, List, [], ◌∷◌}
use Rattle.std.specs.Prelude.{length, nat_lt, nat_le, ◌==◌, IsTrue, IsFalse}
use Rattle.std.specs.List.{list_any}
use Rattle.h41_ram.specs.RegisterMap.{RegisterMap, c_address, c_of, curtain_of, d_address, end_of}
use Rattle.h41_ram.specs.RegisterMap.{m_address, main_start, n_address, o_address, p_address}
use Rattle.h41_ram.specs.RegisterMap.{register_at, start, status_end, top_of, with_alpha, with_flag}
use Rattle.h41_ram.specs.RegisterMap.{with_register}

-- A memory as contracts see it.
pub record RamState : Type 0 where
  pub registers : RegisterMap
  -- The dirty flag: whether a register of the program was written since the flag was cleared.
  pub touched : Bool

-- Whether there is a register at an address.
abbrev pub exists_at : RegisterMap → ℕ → Bool
exists_at memory address =
    nat_lt address status_end || nat_le main_start address && nat_lt address (top_of memory)

-- Whether an address belongs to the program: it is that of register c, or one from that of .END. up
-- to, but not including, the curtain, whatever these are. In memory that is not sound they may be
-- addresses of status registers.
abbrev pub is_of_program : RegisterMap → ℕ → Bool
is_of_program memory address =
    address == c_address
    || nat_le (end_of memory) address && nat_lt address (curtain_of memory)

-- A write at an address sets the dirty flag if there is a register that belongs to the program as
-- it is before the write.
abbrev pub sets_mark : RegisterMap → ℕ → Bool
sets_mark memory address = exists_at memory address && is_of_program memory address

-- The dirty flag after writes at some addresses.
abbrev pub marked_by : List ℕ → RamState → Bool
marked_by addresses ram = ram.touched || list_any (sets_mark ram.registers) addresses

-- The memory at the start. Its dirty flag is set.
abbrev pub start_state : ℕ → RamState
start_state registers = record { registers = start registers; touched = true }

-- The memory after a write of a register.
abbrev pub with_written : RamState → ℕ → List ℕ → RamState
with_written ram address register = record {
  registers = with_register ram.registers address register;
  touched = marked_by (address ∷ []) ram;
}

-- The memory after a write of a flag.
abbrev pub with_flag_written : RamState → ℕ → Bool → RamState
with_flag_written ram flag on = record {
  registers = with_flag ram.registers flag on;
  touched = marked_by (d_address ∷ []) ram;
}

-- The memory after a write of ALPHA.
abbrev pub with_alpha_written : RamState → List ℕ → RamState
with_alpha_written ram text = record {
  registers = with_alpha ram.registers text;
  touched = marked_by (m_address ∷ n_address ∷ o_address ∷ p_address ∷ []) ram;
}

-- Whether any register of main memory belongs to the program.
abbrev pub has_main_program : RegisterMap → Bool
has_main_program memory =
    nat_lt (end_of memory) (curtain_of memory) && nat_lt (end_of memory) (top_of memory)
    && nat_lt main_start (curtain_of memory)

-- The memory after a write of all registers of main memory.
abbrev pub with_main_written : RamState → List (List ℕ) → RamState
with_main_written ram main = record {
  registers = record ram.registers { main = main };
  touched = ram.touched || has_main_program ram.registers;
}

-- The call writes a register of the program exactly if this is true: afterwards the dirty flag is
-- set exactly if this is true or the flag was set before.
abbrev pub MarksIf : Bool → RamState → RamState → Type 0
MarksIf writes old new = new.touched ≡ (writes || old.touched)

-- Two memories of the same size have the same program: the same register c, and the same registers
-- from that of .END. up to, but not including, the curtain.
pub record SameProgram (memory other : RegisterMap) : Type 0 where
  pub size : length memory.main ≡ length other.main
  pub c : c_of memory ≡ c_of other
  pub program : (address : ℕ) → end_of memory ≤ address → address < curtain_of memory
      → register_at memory address ≡ register_at other address

-- The promise of every call that changes a memory: a dirty flag that is set remains set, and if it
-- is clear afterwards, the program is as it was.
pub record KeepsMark (old new : RamState) : Type 0 where
  pub set : IsTrue old.touched → IsTrue new.touched
  pub clear : IsFalse new.touched → SameProgram old.registers new.registers
