-- Registers of memory at known addresses.
use Rattle.std.proofs.Common.{◌≡◌, ℕ, ◌+◌, ◌*◌, ◌%◌, ◌<◌, ◌≤◌, List, length, slice_index, inl, inr, ap, ◌∙◌, arith, rules}
use Rattle.h41_arith.specs.DigitRuleLaws.{number_of}
use Rattle.h41_ram.specs.RegisterMap.{RegisterMap, with_register}
use Rattle.h41_ram.specs.RegisterMapLaws.{Exists}
use Rattle.h41_reasoning.proofs.Digits.{exponent_number}
use Rattle.h41_reasoning.specs.Memory.{HasMemory}

-- Which registers exist.
module _ (registers : ℕ) (memory : RegisterMap) (address : ℕ) (has : HasMemory registers memory) where
  pub status_there : address < 16 → Exists memory address
  status_there less = inl (omega (arith, has.status, less), less)

  pub main_there : 0xC0 ≤ address → address < 0xC0 + registers → Exists memory address
  main_there from less = inr (from, omega (arith, has.main, less))

  -- A write of a register leaves as many.
  pub memory_kept : (register : List ℕ) → HasMemory registers (with_register memory address register)
  memory_kept register =
      record { status = omega (arith, same_status, has.status); main = omega (arith, same_main, has.main) }
    where
      same_status : length (with_register memory address register).status ≡ length memory.status
      same_status = search rules

      same_main : length (with_register memory address register).main ≡ length memory.main
      same_main = search rules

-- The address that the digits 2 to 0 of C select.
pub address_is : (c : List ℕ) (number address : ℕ) → number_of 16 c 0 2 ≡ number → number % 1024 ≡ address
    → (slice_index c 0 + 16 * slice_index c 1 + 256 * slice_index c 2) % 1024 ≡ address
address_is c number address is low = ap (λ word. word % 1024) (omega (arith, exponent_number c, is)) ∙ low
