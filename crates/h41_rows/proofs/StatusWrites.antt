-- Writes of status registers before c, and of flags, one after another: the registers after them, and the dirty flag.
use Rattle.std.proofs.Common.{◌≡◌, ℕ, Bool, true, List, refl, ap, ◌∙◌}
use Rattle.std.specs.Prelude.{nat_lt}
use Rattle.h41_ram.specs.RegisterMap.{RegisterMap, with_flag, with_register}
use Rattle.h41_ram.specs.RamState.{RamState, KeepsMark, with_flag_written, with_written}
use Rattle.h41_rows.proofs.MarksLeft.{Passed, none_yet, then_flag, then_status}

-- The state after the writes so far.
pub record Wrote (old : RamState) (memory : RegisterMap) (new : RamState) : Type 0 where
  pub registers : new.registers ≡ memory
  pub passed : Passed old new

pub none_written : (ram : RamState) → Wrote ram ram.registers ram
none_written ram = record { registers = refl; passed = none_yet ram }

pub written : {old middle new : RamState} {memory : RegisterMap} {register source : List ℕ} (address : ℕ) → Wrote old memory middle
    → new ≡ with_written middle address register → KeepsMark middle new → register ≡ source → nat_lt address 13 ≡ true
    → Wrote old (with_register memory address source) new
written {old} {middle} {new} {memory} {register} {source} address first wrote keeps is below = record {
  registers =
      ap (λ (ram : RamState). ram.registers) wrote
      ∙ (ap (λ (m : RegisterMap). with_register m address register) first.registers ∙ ap (with_register memory address) is);
  passed = then_status old middle new address first.passed keeps (ap (λ (ram : RamState). ram.touched) wrote) below;
}

-- Writes of flags, one after another.
pub flag_written : {old middle new : RamState} {memory : RegisterMap} (flag : ℕ) (on : Bool) → Wrote old memory middle
    → new ≡ with_flag_written middle flag on → KeepsMark middle new → Wrote old (with_flag memory flag on) new
flag_written {old} {middle} {new} {memory} flag on first wrote keeps = record {
  registers = ap (λ (ram : RamState). ram.registers) wrote ∙ ap (λ (m : RegisterMap). with_flag m flag on) first.registers;
  passed = then_flag old middle new first.passed keeps (ap (λ (ram : RamState). ram.touched) wrote);
}
