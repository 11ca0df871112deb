-- Memory with another stack has the same program.
use Rattle.std.proofs.Common.{◌≡◌, ℕ, ◌-◌, ◌≤◌, true, false, refl, sym, ap, ◌∙◌, arith}
use Rattle.std.specs.Prelude.{nat_lt, if◌then◌else◌, slice_index_or}
use Rattle.std.proofs.lemmas.Bool.Decides.{nat_tests}
use Rattle.h41_codes.specs.declared.line.Line.{Line}
use Rattle.h41_ram.specs.RamState.{SameProgram}
use Rattle.h41_ram.specs.RegisterMap.{RegisterMap, is_sound, main_start, register_at, status_end, zeros}
use Rattle.h41_program.proofs.Sound.{bounds}
use Rattle.h41_reasoning_lines.specs.Stacks.{Stack, with_stack}
use Rattle.h41_reasoning_lines.proofs.Listed.{IsLineAt, also}

-- A register of main memory does not depend on the stack.
pub main_register : (stack : Stack) (memory : RegisterMap) (address : ℕ) → main_start ≤ address
    → register_at (with_stack stack memory) address ≡ slice_index_or memory.main (address - main_start) zeros
main_register stack memory address from =
    let above : nat_lt address status_end ≡ false = grind (arith, nat_tests) in
    let main : nat_lt address main_start ≡ false = grind (arith, nat_tests) in
    ap (λ below. if below then slice_index_or (with_stack stack memory).status address zeros
    else if nat_lt address main_start then zeros else slice_index_or memory.main (address - main_start) zeros) above
    ∙ ap (λ below. if below then zeros else slice_index_or memory.main (address - main_start) zeros) main

-- Memories that differ only in their stacks have the same program.
pub same_program : (stack other : Stack) (memory : RegisterMap) → is_sound (with_stack stack memory) ≡ true
    → SameProgram (with_stack stack memory) (with_stack other memory)
same_program stack other memory sound =
    let known = bounds (with_stack stack memory) sound in
    record {
      size = refl;
      c = refl;
      program = λ address from below.
          main_register stack memory address (omega (arith, from, known.low))
          ∙ sym (main_register other memory address (omega (arith, from, known.low)));
    }

-- A line is there whatever the stack contains.
pub still : (stack other : Stack) (memory : RegisterMap) → is_sound (with_stack stack memory) ≡ true → (at next : ℕ) (line : Line)
    → IsLineAt (with_stack stack memory) at line next → IsLineAt (with_stack other memory) at line next
still stack other memory sound at next line is =
    also (with_stack stack memory) (with_stack other memory) at line next (same_program stack other memory sound) is
