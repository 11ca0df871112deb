-- What theorems about programs say of memory: what the stack and the data registers contain, and
-- that nothing else has changed.
use Rattle.std.specs.Prelude.{◌≡◌, ℕ, ◌<◌, ◌≤◌, List, length, drop, if◌then◌else◌, ◌==◌}
use Rattle.h41_ram.specs.NamedRegisters.{data_address, size_of}
use Rattle.h41_ram.specs.RegisterMap.{RegisterMap, curtain_of, main_start, register_at}
use Rattle.h41_reasoning_lines.specs.Stacks.{Stack, stack_of}

-- The data registers of a memory, by their numbers.
abbrev pub data_in : RegisterMap → ℕ → List ℕ
data_in memory n = register_at memory (data_address memory n)

-- Data registers of which one has another content.
abbrev pub with_content : (ℕ → List ℕ) → ℕ → List ℕ → ℕ → List ℕ
with_content contents n register k = if k == n then register else contents k

-- Memory has become this: it has this stack and these data registers. Everything else is as it was:
-- the other status registers, and main memory below the data registers.
pub record HasBecome (old : RegisterMap) (stack : Stack) (contents : ℕ → List ℕ)
    (memory : RegisterMap) : Type 0 where
  pub stack_is : stack_of memory ≡ stack
  pub data_are : (n : ℕ) → n < size_of old → register_at memory (data_address old n) ≡ contents n
  pub status_is : drop 5 memory.status ≡ drop 5 old.status
  pub sixteen : length memory.status ≡ 16
  pub size_is : length memory.main ≡ length old.main
  pub rest_is : (address : ℕ) → main_start ≤ address → address < curtain_of old
      → register_at memory address ≡ register_at old address
