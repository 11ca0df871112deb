-- The data registers: programs do not depend on them, and they do not depend on the stack.
use Rattle.std.proofs.Common.{◌≡◌, ℕ, ◌+◌, ◌-◌, ◌<◌, ◌≤◌, Bool, true, false, List, Some, length, sym, ap, ◌∙◌, subst, arith}
use Rattle.std.specs.Bool.{then_some}
use Rattle.std.specs.Prelude.{◌||◌, nat_lt}
use Rattle.std.proofs.lemmas.Bool.Decides.{nat_tests}
use Rattle.std.proofs.lemmas.Grind.{common_steps}
use Rattle.h41_program.proofs.Depends as depends
use Rattle.h41_program.proofs.Sound.{bounds}
use Rattle.h41_ram.proofs.Writes.{written_keeps}
use Rattle.h41_ram.specs.NamedRegisters.{data_address, data_of, size_of}
use Rattle.h41_ram.specs.RamState.{RamState, SameProgram, sets_mark}
use Rattle.h41_ram.specs.RegisterMap.{RegisterMap, curtain_of, end_of, is_sound, main_start, register_at, three_digits, top_of}
use Rattle.h41_ram.specs.RegisterMap.{with_register}
use Rattle.h41_reasoning_lines.specs.Stacks.{Stack, stack_of, with_stack}
use Rattle.h41_reasoning_lines.proofs.Stacks.{main_register, same_program}
use Rattle.h41_reasoning_lines.proofs.Stepping.{own_stack}

-- Data registers are in main memory.
pub above_status : (memory : RegisterMap) (n : ℕ) → is_sound memory ≡ true → main_start ≤ data_address memory n
above_status memory n sound = let known = bounds memory sound in omega (arith, known.low, known.order)

-- A data register contains the same whatever the stack contains.
pub same_data : (stack other : Stack) (memory : RegisterMap) (n : ℕ) → is_sound (with_stack stack memory) ≡ true
    → register_at (with_stack other memory) (data_address (with_stack stack memory) n)
    ≡ register_at (with_stack stack memory) (data_address (with_stack stack memory) n)
same_data stack other memory n sound =
    let above = above_status (with_stack stack memory) n sound in
    main_register other memory (data_address (with_stack stack memory) n) above
    ∙ sym (main_register stack memory (data_address (with_stack stack memory) n) above)

unmarked : (memory : RegisterMap) (address : ℕ) → curtain_of memory ≤ address → main_start ≤ address → sets_mark memory address ≡ false
unmarked memory address above main = grind (arith, nat_tests, common_steps)

-- A write of a data register does not change the program.
pub same_program_written : (memory : RegisterMap) (n : ℕ) (register : List ℕ) → is_sound memory ≡ true
    → SameProgram memory (with_register memory (data_address memory n) register)
same_program_written memory n register sound =
    let above = above_status memory n sound in
    let clear : sets_mark memory (data_address memory n) ≡ false = unmarked memory (data_address memory n) (omega arith) above in
    let ram : RamState = record { registers = memory; touched = false } in
    (written_keeps ram (data_address memory n) register).clear (ap (λ (marks : Bool). marks || false) clear)

some_same : (a b : List ℕ) → Some a ≡ Some b → a ≡ b
some_same a b same = cc

-- The content of a data register that exists.
pub data_there : (memory : RegisterMap) (n : ℕ) → n < size_of memory
    → data_of memory n ≡ Some (register_at memory (data_address memory n))
data_there memory n below =
    let inside : nat_lt n (size_of memory) ≡ true = grind (arith, nat_tests) in
    ap (λ (yes : Bool). then_some yes (register_at memory (data_address memory n))) inside

pub data_is : (memory : RegisterMap) (n : ℕ) (register : List ℕ) → n < size_of memory → data_of memory n ≡ Some register
    → register_at memory (data_address memory n) ≡ register
data_is memory n register below is =
    some_same (register_at memory (data_address memory n)) register (sym (data_there memory n below) ∙ is)

-- The same with another stack.
pub same_data_of : (stack other : Stack) (memory : RegisterMap) (n : ℕ) → is_sound (with_stack stack memory) ≡ true
    → data_of (with_stack other memory) n ≡ data_of (with_stack stack memory) n
same_data_of stack other memory n sound =
    ap (λ (register : List ℕ). then_some (nat_lt n (size_of (with_stack stack memory))) register) (same_data stack other memory n sound)

-- Memory with another stack: its program and its data registers.
module _ (stack : Stack) (memory : RegisterMap) (size : length memory.status ≡ 16) (sound : is_sound memory ≡ true) where
  own : with_stack (stack_of memory) memory ≡ memory
  own = own_stack memory size

  own_sound : is_sound (with_stack (stack_of memory) memory) ≡ true
  own_sound = ap is_sound own ∙ sound

  pub with_other_stack : SameProgram memory (with_stack stack memory)
  with_other_stack =
      subst (λ (other : RegisterMap). SameProgram other (with_stack stack memory)) own
      (same_program (stack_of memory) stack memory own_sound)

  pub sound_with_stack : is_sound (with_stack stack memory) ≡ true
  sound_with_stack = sym (depends.soundness memory (with_stack stack memory) with_other_stack) ∙ sound

  pub data_with_stack : (n : ℕ) → data_of (with_stack stack memory) n ≡ data_of memory n
  data_with_stack n =
      same_data_of (stack_of memory) stack memory n own_sound ∙ ap (λ (other : RegisterMap). data_of other n) own

-- Memories with the same program have the same data registers at the same addresses.
pub same_address : (memory other : RegisterMap) (n : ℕ) → SameProgram memory other → data_address memory n ≡ data_address other n
same_address memory other n agree = ap (λ (c : List ℕ). three_digits c 3 + n) agree.c

pub same_size : (memory other : RegisterMap) → SameProgram memory other → size_of memory ≡ size_of other
same_size memory other agree =
    ap (λ (count : ℕ). main_start + count - curtain_of memory) agree.size
    ∙ ap (λ (c : List ℕ). top_of other - three_digits c 3) agree.c

pub same_program_on : (first second third : RegisterMap) → SameProgram first second → SameProgram second third → SameProgram first third
same_program_on first second third one two =
    let end : end_of first ≡ end_of second = ap (λ (c : List ℕ). three_digits c 0) one.c in
    let curtain : curtain_of first ≡ curtain_of second = ap (λ (c : List ℕ). three_digits c 3) one.c in
    record {
      size = one.size ∙ two.size;
      c = one.c ∙ two.c;
      program = λ address from below.
          one.program address from below ∙ two.program address (omega (arith, end, from)) (omega (arith, curtain, below));
    }
