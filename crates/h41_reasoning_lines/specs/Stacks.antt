-- The registers on which most lines work, and memory with other ones.
use Rattle.std.specs.Prelude.{ℕ, List, ◌∷◌, drop}
use Rattle.h41_ram.specs.NamedRegisters.{status_of}
use Rattle.h41_ram.specs.RegisterMap.{RegisterMap}
use Rattle.h41_ram.specs.declared.status.StatusRegister.TheVariants as names

-- The stack and LAST X, as registers of 14 digits.
pub record Stack : Type 0 where
  pub t : List ℕ
  pub z : List ℕ
  pub y : List ℕ
  pub x : List ℕ
  pub last : List ℕ

-- The stack of a memory.
abbrev pub stack_of : RegisterMap → Stack
stack_of memory = record {
  t = status_of memory names.T;
  z = status_of memory names.Z;
  y = status_of memory names.Y;
  x = status_of memory names.X;
  last = status_of memory names.L;
}

-- Memory with another stack. T, Z, Y, X and LAST X are the first five registers, and the only ones
-- that change.
abbrev pub with_stack : Stack → RegisterMap → RegisterMap
with_stack stack memory = record memory {
  status =
      stack.t ∷ stack.z ∷ stack.y ∷ stack.x ∷ stack.last ∷ drop 5 memory.status;
}
