-- The registers of the processor, and its states at the start.
use Rattle.std.specs.Prelude.{ℕ, Bool, true, false, List, [], ◌∷◌, replicate}
use Rattle.h41_fields.specs.declared.field.Pointer.{Pointer}
use Rattle.h41_fields.specs.declared.field.Pointer.TheVariants.{P}
use Rattle.h41_nut.specs.Addresses.{end_of_function}
use Rattle.h41_nut.specs.declared.base.Base.{Base}
use Rattle.h41_nut.specs.declared.base.Base.TheVariants.{Hexadecimal}

-- The state of the processor.
pub record Processor : Type 0 where
  -- The registers of 14 digits, place 0 first.
  pub a : List ℕ
  pub b : List ℕ
  pub c : List ℕ
  pub m : List ℕ
  pub n : List ℕ
  -- The registers of 8 bits.
  pub g : ℕ
  pub t : ℕ
  -- The status bits as a number, of which S0 is the lowest bit.
  pub status : ℕ
  -- The places that the pointers P and Q name, and the active pointer.
  pub p : ℕ
  pub q : ℕ
  pub active : Pointer
  -- The address of the next word.
  pub pc : ℕ
  -- The four return addresses, the newest first.
  pub returns : List ℕ
  pub carry : Bool
  pub base : Base
  -- The selected address of the memory.
  pub selected : ℕ
  -- Whether the display is on.
  pub display : Bool

-- The state before the first call: everything is zero, except the address, at which a function
-- ends, and the display, which is on.
abbrev pub initial_state : Processor
initial_state = record {
  a = replicate 14 0;
  b = replicate 14 0;
  c = replicate 14 0;
  m = replicate 14 0;
  n = replicate 14 0;
  g = 0;
  t = 0;
  status = 0;
  p = 0;
  q = 0;
  active = P;
  pc = end_of_function;
  returns = 0 ∷ 0 ∷ 0 ∷ 0 ∷ [];
  carry = false;
  base = Hexadecimal;
  selected = 0;
  display = true;
}

-- The state in which a function begins at an address (this project's choice): everything is zero as
-- before the first call; the newest return address is that of a function's end, the other three are
-- 0000; the display does not change.
abbrev pub at_function : Processor → ℕ → Processor
at_function s address =
    record initial_state {
      pc = address;
      returns = end_of_function ∷ 0 ∷ 0 ∷ 0 ∷ [];
      display =
          s.display;
    }
