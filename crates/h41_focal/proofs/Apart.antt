-- If memory is sound, no register that an operand names contains programs.
use Rattle.std.proofs.Common.{◌≡◌, ℕ, ◌+◌, ◌-◌, ◌<◌, Bool, true, false, [], ◌∷◌, Result, Ok, Err, refl, subst, arith}
use Rattle.std.specs.Prelude.{nat_lt, if◌then◌else◌, IsTrue}
use Rattle.std.proofs.lemmas.Bool.Decides.{nat_tests}
use Rattle.h41_codes.specs.declared.line.Operand.{Operand}
use Rattle.h41_codes.specs.declared.line.Operand.TheVariants.{Direct, Indirect}
use Rattle.h41_ram.specs.NamedRegisters.{size_of}
use Rattle.h41_ram.specs.RegisterMap.{RegisterMap, curtain_of, is_sound}
use Rattle.h41_positions.specs.LabelledMachine.{LabelledMachine}
use Rattle.h41_ram.specs.RamState.{RamState, marked_by}
use Rattle.h41_rows.proofs.MarksLeft.{data_apart, left_by_flag, status_apart}
use Rattle.h41_rows.specs.Operands.{Address, Meant, RegisterKind, address_of, data_register, meant_as, number_of}
use Rattle.h41_rows.specs.Operands.{parameter_register, then_find}
use Rattle.h41_rows.specs.Profile.{is_operand_left_out, is_parameter_left_out}
use Rattle.h41_rows.specs.RowMarks.{IsApart, LeavesMark}
use Rattle.h41_rows.specs.declared.fault.LineFault.{LineFault}
use Rattle.h41_rows.specs.declared.fault.LineFault.TheVariants.{Nonexistent}

-- An address was found.
abbrev pub IsAt : Result ℕ LineFault → ℕ → Type 0
IsAt found address = ◌≡◌ {A = Result ℕ LineFault} found (Ok address)

module _ (memory : RegisterMap) (sound : IsTrue (is_sound memory)) where
  numbered : (n address : ℕ) (there : Bool) → IsAt (if there then Ok (curtain_of memory + n) else Err Nonexistent) address
      → IsApart memory address
  numbered n address true found =
      let at : curtain_of memory + n ≡ address = cc in data_apart memory address sound (omega (arith, at))
  numbered n address false found = absurd cc

  pub data_found : (n address : ℕ) → IsAt (data_register memory n) address → IsApart memory address
  data_found n address found = numbered n address (nat_lt n (size_of memory)) found

  named : (parameter address : ℕ) (below : Bool) → nat_lt parameter 100 ≡ below → is_parameter_left_out parameter ≡ false
      → IsAt (if below then data_register memory parameter else Ok (parameter - 112)) address → IsApart memory address
  named parameter address true is held found = data_found parameter address found
  named parameter address false is held found =
      let at : parameter - 112 ≡ address = cc in
      let low : parameter - 112 < 5 = stack_low parameter is held in
      status_apart memory address sound (omega (arith, at, low)) (λ same. absurd (omega (arith, at, low, same)))
    where
      stack_low : (parameter : ℕ) → nat_lt parameter 100 ≡ false → is_parameter_left_out parameter ≡ false → parameter - 112 < 5
      stack_low parameter is held = grind (arith, nat_tests)

  pub parameter_found : (parameter address : ℕ) → is_parameter_left_out parameter ≡ false
      → IsAt (parameter_register memory parameter) address → IsApart memory address
  parameter_found parameter address held found = named parameter address (nat_lt parameter 100) refl held found

  counted : (number : Result ℕ LineFault) (address : ℕ) → IsAt (then_find number (data_register memory)) address → IsApart memory address
  counted (Ok n) address found = data_found n address found
  counted (Err fault) address found = absurd cc

  operand_found : (operand : Operand) (address : ℕ) → is_operand_left_out operand ≡ false → IsAt (address_of memory operand) address
      → IsApart memory address
  operand_found (Direct parameter) address held found = parameter_found parameter address held found
  operand_found (Indirect parameter) address held found = counted (number_of memory (Indirect parameter)) address found

  meant_at : (found : Result ℕ LineFault) (address : ℕ)
      → ◌≡◌ {A = Result Meant LineFault} (Ok (Address address)) (then_find found (λ (at : ℕ). Ok (Address at))) → IsAt found address
  meant_at (Ok at) address meant = cc
  meant_at (Err fault) address meant = absurd cc

  -- The register of an operand.
  pub register_found : (operand : Operand) (address : ℕ) → is_operand_left_out operand ≡ false
      → ◌≡◌ {A = Result Meant LineFault} (Ok (Address address)) (meant_as RegisterKind memory operand) → IsApart memory address
  register_found operand address held meant = operand_found operand address held (meant_at (address_of memory operand) address meant)

-- A flag is written in the memory of a machine whose parts are stored separately.
module _ (inside : RamState) (machine : LabelledMachine) (is : inside ≡ machine.ram) (new : RamState) where
  pub left_flag : new.touched ≡ marked_by (14 ∷ []) inside → LeavesMark machine.ram new
  left_flag written =
      left_by_flag machine.ram new (subst (λ (ram : RamState). new.touched ≡ marked_by (14 ∷ []) ram) is written)
