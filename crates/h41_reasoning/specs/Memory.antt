-- What a theorem requires of the memory of a calculator.
use Rattle.std.specs.Prelude.{◌≡◌, ℕ, ◌≤◌, length}
use Rattle.h41_ram.specs.RegisterMap.{RegisterMap}

-- A memory with its sixteen status registers, and at least so many registers of main memory.
pub record HasMemory (registers : ℕ) (memory : RegisterMap) : Type 0 where
  pub status : length memory.status ≡ 16
  pub main : registers ≤ length memory.main
