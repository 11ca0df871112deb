-- The addresses in register c, and what they say about whether memory is sound.
use Rattle.std.proofs.Common.{◌≡◌, ℕ, ◌+◌, ◌/◌, ◌%◌, ◌<◌, ◌≤◌, true, List, length, get_or-set_other}
use Rattle.std.proofs.Common.{length-set, ◌∙◌, arith, rules}
use Rattle.std.specs.Prelude.{slice_set}
use Rattle.std.proofs.lemmas.Bool.Decides.{nat_tests}
use Rattle.std.proofs.lemmas.Grind.{common_steps}
use Rattle.std.proofs.Math.ListN.{get_or-eq_default}
use Rattle.h41_ram.specs.RegisterMap.{RegisterMap, main_start, top_of, register_at, c_of, curtain_of, end_of, constant_of}
use Rattle.h41_ram.specs.RegisterMap.{is_sound, is_final_end, three_digits, with_three_places}
use Rattle.h41_program.proofs.Sound.{constant}

-- Three digits that were written are read again.
module _ (register : List ℕ) (place number : ℕ) where
  abbrev first_set : List ℕ
  first_set = slice_set register place (number % 16)

  abbrev second_set : List ℕ
  second_set = slice_set first_set (place + 1) (number / 16 % 16)

  pub length-three_places : length (with_three_places register place number) ≡ length register
  length-three_places =
      length-set second_set (place + 2) (number / 256) ∙ length-set first_set (place + 1) (number / 16 % 16)
      ∙ length-set register place (number % 16)

  pub three_again : place + 2 < length register → three_digits (with_three_places register place number) place ≡ number
  three_again inside = grind (arith, common_steps)

  pub three_above : (other : ℕ) → place + 2 < other
      → three_digits (with_three_places register place number) other ≡ three_digits register other
  three_above other above = grind (arith, common_steps, get_or-set_other)

  pub three_below : (other : ℕ) → other + 2 < place
      → three_digits (with_three_places register place number) other ≡ three_digits register other
  three_below other below = grind (arith, common_steps, get_or-set_other)

-- If the constant is in register c, the register is long enough for the curtain.
pub c_long : (memory : RegisterMap) → is_sound memory ≡ true → 6 < length (c_of memory)
c_long memory sound = search (rules, constant, nat_tests, get_or-eq_default)

pub c_there : (memory : RegisterMap) → is_sound memory ≡ true → 13 < length memory.status
c_there memory sound = search (rules, get_or-eq_default, constant)

-- Memory with these addresses and this end is sound.
pub sound_by : (memory : RegisterMap) → constant_of memory ≡ 0x169 → main_start ≤ end_of memory → end_of memory < curtain_of memory
    → curtain_of memory ≤ top_of memory → is_final_end (register_at memory (end_of memory)) ≡ true → is_sound memory ≡ true
sound_by memory constant low order high end = grind (arith, nat_tests)
