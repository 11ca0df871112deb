-- A write of all registers of main memory keeps the promise about the dirty flag, and calls in turn keep it.
use Rattle.std.proofs.Common.{◌≡◌, ℕ, ◌+◌, ◌-◌, ◌<◌, ◌≤◌, true, false, List, length, get_or, refl, sym, ap, arith, ◌∙◌, rules}
use Rattle.std.proofs.Common.{if◌then◌else◌}
use Rattle.std.specs.Prelude.{nat_lt, IsFalse}
use Rattle.std.proofs.lemmas.Bool.Decides.{nat_tests}
use Rattle.std.proofs.lemmas.List.{get_or_past}
use Rattle.h41_ram.specs.RegisterMap.{RegisterMap, zeros, register_at, curtain_of, end_of, three_digits}
use Rattle.h41_ram.specs.MarkLaws.{MarkIsKeptInTurn, MarkStays}
use Rattle.h41_ram.specs.RamState.{RamState, KeepsMark, SameProgram, has_main_program, with_main_written}

-- The registers after main memory.
past : (main : List (List ℕ)) (address : ℕ) → 192 + length main ≤ address → get_or main (address - 192) zeros ≡ zeros
past main address behind = get_or_past main (address - 192) zeros (omega (arith, behind))

behind_top : (memory : RegisterMap) (address : ℕ) → has_main_program memory ≡ false → end_of memory ≤ address
    → address < curtain_of memory → 192 ≤ address → 192 + length memory.main ≤ address
behind_top memory address none from below above = grind (arith, nat_tests)

-- A register of the program that a write of main memory does not reach.
same_at : (memory : RegisterMap) (main : List (List ℕ)) (address : ℕ) → length memory.main ≡ length main
    → has_main_program memory ≡ false → end_of memory ≤ address → address < curtain_of memory
    → register_at memory address ≡ register_at (record memory { main = main }) address
same_at memory main address size none from below =
    ap (λ rest. if nat_lt address 16 then get_or memory.status address zeros else rest)
    (elim (nat_lt address 192) as (λ low. nat_lt address 192 ≡ low
    → (if low then zeros else get_or memory.main (address - 192) zeros) ≡ (if low then zeros else get_or main (address - 192) zeros)) [
      | true ↦ λ is. refl
      | false ↦ λ is.
          let above : 192 ≤ address = grind (arith, nat_tests) in
          let behind = behind_top memory address none from below above in
          past memory.main address behind ∙ sym (past main address (omega (arith, size, behind)))
    ] refl)

pub main_keeps : (ram : RamState) (main : List (List ℕ)) → length ram.registers.main ≡ length main
    → KeepsMark ram (with_main_written ram main)
main_keeps ram main size = record {
  set = λ was. search rules;
  clear = λ off. record {
    size = size;
    c = refl;
    program = λ address from below. same_at ram.registers main address size (search rules) from below;
  };
}

-- A dirty flag that is clear after two calls was clear between them.
clear_between : (middle new : RamState) → KeepsMark middle new → IsFalse new.touched → IsFalse middle.touched
clear_between middle new second off = search rules

same_in_turn : (memory between other : RegisterMap) → SameProgram memory between → SameProgram between other → SameProgram memory other
same_in_turn memory between other first second = record {
  size = first.size ∙ second.size;
  c = first.c ∙ second.c;
  program = λ address from below.
      let end : end_of between ≡ end_of memory = sym (ap (λ c. three_digits c 0) first.c) in
      let curtain : curtain_of between ≡ curtain_of memory = sym (ap (λ c. three_digits c 3) first.c) in
      first.program address from below
      ∙ second.program address (omega (arith, end, from)) (omega (arith, curtain, below));
}

-- Calls in turn keep the promise.
pub in_turn : MarkIsKeptInTurn
in_turn old middle new first second = record {
  set = λ was. second.set (first.set was);
  clear = λ off.
      same_in_turn old.registers middle.registers new.registers (first.clear (clear_between middle new second off)) (second.clear off);
}

pub stays : MarkStays
stays ram = record {
  set = λ was. was;
  clear = λ off. record { size = refl; c = refl; program = λ address from below. refl };
}
