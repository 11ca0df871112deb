-- The memory of a calculator, and lists of bytes.
use Rattle.std.specs.Prelude.{ℕ, ◌≤◌, ◌<◌, List, length, All}
use Rattle.h41_ram.specs.RegisterMap.{RegisterMap}
use Rattle.h41_laws_words.specs.WholeStates.{HoldsRegisters}

-- The most main registers.
abbrev pub most_main : ℕ
most_main = 320

-- All registers have 14 digits, and there are at most as many as a calculator has.
pub record IsWholeMemory (memory : RegisterMap) : Type 0 where
  pub holds : HoldsRegisters memory
  pub most : length memory.main ≤ most_main

-- Each number in the list is a byte.
abbrev pub AreBytes : List ℕ → Type 0
AreBytes bytes = All (λ byte. byte < 256) bytes
