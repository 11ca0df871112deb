-- A word leaves registers of 14 digits, so that the next word has a result too.
use Rattle.std.specs.Prelude.{◌<◌, All}
use Rattle.h41_digits.specs.Register.{IsRegister}
use Rattle.h41_nut.specs.Addresses.{address_count}
use Rattle.h41_nut.specs.Processor.{Processor}
use Rattle.h41_nut.specs.WordStep.{Micro, Nut}
use Rattle.h41_pages.specs.PageMap.{IsPageMap}
use Rattle.h41_ram.specs.RegisterMap.{RegisterMap}
use Rattle.h41_laws_words.specs.WordAnswers.{HasRegisters}

-- The registers of the processor that can be copied to C: A, B, C, M and N have 14 digits, G has a
-- byte, and the return addresses are addresses.
pub record HasAllRegisters (s : Processor) : Type 0 where
  pub abc : HasRegisters s
  pub m : IsRegister 14 s.m
  pub n : IsRegister 14 s.n
  pub g : s.g < 256
  pub returns : All (λ address. address < address_count) s.returns

-- All registers of memory have 14 digits.
pub record HoldsRegisters (memory : RegisterMap) : Type 0 where
  pub status : All (IsRegister 14) memory.status
  pub main : All (IsRegister 14) memory.main

-- A state that a processor, memory, keyboard and pages can have.
pub record IsWhole (s : Nut) : Type 0 where
  pub processor : HasAllRegisters s.processor
  pub memory : HoldsRegisters s.ram
  pub pages : IsPageMap s.pages
  pub key : s.keys.ky < 256

-- From such a state a word leaves such a state.
abbrev pub WordLeavesWhole : Type 0
WordLeavesWhole = (s t : Nut) → IsWhole s → Micro s t → IsWhole t
