-- Memories that differ only in the stack, LAST X, R01, R02 and R03.
use Rattle.std.proofs.Common.{◌≡◌, ◌≢◌, ℕ, suc, ◌-◌, ◌<◌, List, ◌∷◌, length, drop, refl, sym, ap, ◌∙◌, arith}
use Rattle.std.proofs.Common.{get_or-set_other, length-set, true}
use Rattle.std.specs.Prelude.{nat_lt, if◌then◌else◌, slice_index_or}
use Rattle.std.proofs.lemmas.Bool.Decides.{nat_tests}
use Rattle.h41_ram.specs.NamedRegisters.{data_address, with_data}
use Rattle.h41_ram.specs.RamState.{SameProgram}
use Rattle.h41_ram.specs.RegisterMap.{IsMemory, RegisterMap, is_sound, main_start, register_at, status_end, with_register, zeros}
use Rattle.h41_reasoning_lines.specs.Stacks.{Stack, stack_of, with_stack}
use Rattle.h41_reasoning_lines.proofs.DataRegisters.{same_address, same_program_on, same_program_written, with_other_stack}
use Rattle.h41_reasoning_lines.proofs.Stepping.{own_stack}
use Rattle.h41_proved_lines.specs.BisectionLoop.{KeepsOthers}

-- The same program memory too.
pub record Keeps (old new : RegisterMap) : Type 0 where
  pub program : SameProgram old new
  pub only : KeepsOthers old new

pub keeps_memory : (count : ℕ) (old new : RegisterMap) → IsMemory count old → KeepsOthers old new → IsMemory count new
keeps_memory count old new is only =
    record { status = only.status ∙ is.status; main = only.main ∙ is.main; least = is.least; most = is.most }

same_memory : (memory : RegisterMap) → SameProgram memory memory
same_memory memory = record { size = refl; c = refl; program = λ address from below. refl }

pub keeps_all : (memory : RegisterMap) → Keeps memory memory
keeps_all memory = record {
  program = same_memory memory;
  only = record { status = refl; main = refl; same = λ address above one two three. refl };
}

pub keeps_on : (first second third : RegisterMap) → Keeps first second → Keeps second third → Keeps first third
keeps_on first second third one two = record {
  program = same_program_on first second third one.program two.program;
  only = record {
    status = two.only.status ∙ one.only.status;
    main = two.only.main ∙ one.only.main;
    same = λ address above apart_1 apart_2 apart_3.
        two.only.same address above (λ is. apart_1 (is ∙ sym (same_address first second 1 one.program)))
        (λ is. apart_2 (is ∙ sym (same_address first second 2 one.program)))
        (λ is. apart_3 (is ∙ sym (same_address first second 3 one.program)))
        ∙ one.only.same address above apart_1 apart_2 apart_3;
  };
}

-- Another stack.
later_register : (a b c d e t z y x l : List ℕ) (rest : List (List ℕ)) (address : ℕ) → 4 < address
    → slice_index_or (a ∷ b ∷ c ∷ d ∷ e ∷ rest) address zeros ≡ slice_index_or (t ∷ z ∷ y ∷ x ∷ l ∷ rest) address zeros
later_register a b c d e t z y x l rest (suc (suc (suc (suc (suc k))))) above = refl
later_register a b c d e t z y x l rest address above = absurd (omega (arith, above))

other_registers : (stack other : Stack) (memory : RegisterMap) (address : ℕ) → 4 < address
    → register_at (with_stack stack memory) address ≡ register_at (with_stack other memory) address
other_registers stack other memory address above =
    ap (λ (register : List ℕ). if nat_lt address status_end then register
    else if nat_lt address main_start then zeros else slice_index_or memory.main (address - main_start) zeros)
    (later_register stack.t stack.z stack.y stack.x stack.last other.t other.z other.y other.x other.last (drop 5 memory.status) address
    above)

pub keeps_stack : (stack : Stack) (memory : RegisterMap) → length memory.status ≡ 16 → is_sound memory ≡ true
    → Keeps memory (with_stack stack memory)
keeps_stack stack memory size sound =
    let own : with_stack (stack_of memory) memory ≡ memory = own_stack memory size in
    record {
      program = with_other_stack stack memory size sound;
      only = record {
        status = ap (λ (m : RegisterMap). length m.status) own;
        main = refl;
        same = λ address above one two three.
            other_registers stack (stack_of memory) memory address above ∙ ap (λ (m : RegisterMap). register_at m address) own;
      };
    }

-- Another data register.
written_status : (memory : RegisterMap) (address : ℕ) (register : List ℕ)
    → length (with_register memory address register).status ≡ length memory.status
written_status memory address register = grind (arith, nat_tests, length-set)

written_main : (memory : RegisterMap) (address : ℕ) (register : List ℕ)
    → length (with_register memory address register).main ≡ length memory.main
written_main memory address register = grind (arith, nat_tests, length-set)

other_at : (memory : RegisterMap) (address : ℕ) (register : List ℕ) (at : ℕ) → at ≢ address
    → register_at (with_register memory address register) at ≡ register_at memory at
other_at memory address register at apart = grind (arith, nat_tests, get_or-set_other)

pub keeps_data : (memory : RegisterMap) (n : ℕ) (register : List ℕ) → is_sound memory ≡ true
    → ((address : ℕ) → address ≢ data_address memory 1 → address ≢ data_address memory 2 → address ≢ data_address memory 3
    → address ≢ data_address memory n)
    → Keeps memory (with_data memory n register)
keeps_data memory n register sound among = record {
  program = same_program_written memory n register sound;
  only = record {
    status = written_status memory (data_address memory n) register;
    main = written_main memory (data_address memory n) register;
    same = λ address above one two three. other_at memory (data_address memory n) register address (among address one two three);
  };
}
