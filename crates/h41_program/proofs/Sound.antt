-- The facts about sound memory: the bounds of its program memory, and that it ends in .END.
use Rattle.std.proofs.Common.{◌≡◌, ◌≢◌, get_or, ℕ, ◌+◌, ◌-◌, ◌*◌, ◌/◌, ◌%◌, ◌<◌, ◌≤◌, Bool, true, false, List, length, arith, refl}
use Rattle.std.proofs.lemmas.Bool.Decides.{nat_tests}
use Rattle.std.specs.Prelude.{◌&&◌, nat_lt, nat_le, ◌==◌}
use Rattle.h41_ram.specs.RegisterMap.{RegisterMap, main_start, top_of, curtain_of, end_of, is_sound, is_final_end, register_at}
use Rattle.h41_ram.specs.RegisterMap.{constant_of, sound_constant}
use Rattle.h41_codes.specs.Heads.{IsIn}
use Rattle.h41_digits.specs.Register.{byte_at, IsRegister}
use Rattle.h41_program.specs.ProgramBytes.{program_byte, final_position}
use Rattle.std.proofs.Common.{rules}

-- The bounds of program memory.
pub record Bounds (memory : RegisterMap) : Type 0 where
  pub low : main_start ≤ end_of memory
  pub order : end_of memory < curtain_of memory
  pub high : curtain_of memory ≤ main_start + length memory.main

pub and_second : (a b : Bool) → (a && b) ≡ true → b ≡ true
and_second true b h = h
and_second false b h = cc

-- The five parts of a test.
module _ (a b c d e : Bool) (h : (a && (b && c && d) && e) ≡ true) where
  last_holds : e ≡ true
  last_holds = and_second (a && (b && c && d)) e h

module _ (memory : RegisterMap) (sound : is_sound memory ≡ true) where
  abbrev constant_test : Bool
  constant_test = constant_of memory == sound_constant

  abbrev low_test : Bool
  low_test = nat_le main_start (end_of memory)

  abbrev order_test : Bool
  order_test = nat_lt (end_of memory) (curtain_of memory)

  abbrev high_test : Bool
  high_test = nat_le (curtain_of memory) (top_of memory)

  abbrev end_test : Bool
  end_test = is_final_end (register_at memory (end_of memory))

  pub bounds : Bounds memory
  bounds = search (rules, nat_tests)

  pub constant : constant_of memory ≡ 0x169
  constant = search (rules, nat_tests)

  pub ends : is_final_end (register_at memory (end_of memory)) ≡ true
  ends = last_holds constant_test low_test order_test high_test end_test sound

  abbrev final : List ℕ
  final = register_at memory (end_of memory)

  final_test : nat_le 0xC0 (byte_at final 2) ≡ true
  final_test = search (rules, nat_tests)

  -- The test of the last three bytes.
  first_most : byte_at final 2 ≤ 0xCD
  first_most = search (rules, nat_tests)

  third_below : byte_at final 0 < 0xF0
  third_below = search (rules, nat_tests)

  third_marked : get_or final 1 0 / 2 % 2 ≡ 1
  third_marked = search (rules, ends, nat_tests)

-- The byte at a position, by its register and its place there.
pub program_byte-at : (memory : RegisterMap) (position address place : ℕ) → curtain_of memory - 1 - position / 7 ≡ address
    → 6 - position % 7 ≡ place → program_byte memory position ≡ byte_at (register_at memory address) place
program_byte-at memory position address place here there = rw (here, there) refl

-- .END. is in the last three bytes of the last register.
last_register : (curtain end : ℕ) → end < curtain → curtain - 1 - (7 * (curtain - end) - 3) / 7 ≡ end
last_register curtain end below = omega arith

last_place : (curtain end : ℕ) → end < curtain → 6 - (7 * (curtain - end) - 3) % 7 ≡ 2
last_place curtain end below = omega arith

-- The first of the last three bytes.
pub final_byte : (memory : RegisterMap) → is_sound memory ≡ true → 0xC0 ≤ program_byte memory (final_position memory)
final_byte memory sound = search (rules, bounds, program_byte-at, last_register, last_place, final_test, nat_tests)

-- It is therefore no null.
pub no_null_at_end : (memory : RegisterMap) (last : ℕ) → is_sound memory ≡ true → last ≡ final_position memory
    → program_byte memory last ≢ 0
no_null_at_end memory last sound is null = search (rules, final_byte)

-- All three bytes.
pub record FinalBytes (memory : RegisterMap) (last : ℕ) : Type 0 where
  pub first : IsIn 0xC0 0xCE (program_byte memory last)
  pub second : program_byte memory (last + 1) < 256
  pub third : program_byte memory (last + 2) < 0xF0
  pub marked : program_byte memory (last + 2) / 32 % 2 ≢ 0

pub final_bytes : (memory : RegisterMap) (last : ℕ) → is_sound memory ≡ true → IsRegister 14 (register_at memory (end_of memory))
    → last ≡ final_position memory → FinalBytes memory last
final_bytes memory last sound register is = search (rules, bounds, program_byte-at, final_byte, first_most, third_below, third_marked)
