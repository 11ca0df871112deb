-- Writes that do not change the dirty flag of sound memory, and sequences of calls that do not.
use Rattle.std.proofs.Common.{◌≡◌, ◌≢◌, ℕ, ◌+◌, ◌<◌, ◌≤◌, Bool, true, false, List, [], ◌∷◌, refl, sym, ap, ◌∙◌, rules}
use Rattle.std.specs.Prelude.{nat_lt, nat_le, ◌&&◌, ◌||◌, ◌==◌, IsFalse, IsTrue}
use Rattle.std.proofs.lemmas.Bool.{ltb-true}
use Rattle.std.proofs.lemmas.Bool.Decides.{nat_tests}
use Rattle.h41_ram.specs.RegisterMap.{RegisterMap, constant_of, end_of, curtain_of, top_of, three_digits}
use Rattle.h41_ram.specs.RegisterMap.{is_final_end, is_sound, register_at}
use Rattle.h41_ram.specs.RamState.{RamState, KeepsMark, SameProgram, marked_by, sets_mark}
use Rattle.h41_ram.proofs.Marks.{in_turn as turned, stays}
use Rattle.h41_rows.specs.RowMarks.{IsApart, LeavesMark}

-- The conditions of sound memory.
record Sound (memory : RegisterMap) : Type 0 where
  constant : (constant_of memory == 0x169) ≡ true
  end : 192 ≤ end_of memory
  below : end_of memory < curtain_of memory
  top : curtain_of memory ≤ top_of memory
  final : is_final_end (register_at memory (end_of memory)) ≡ true

sound_parts : (memory : RegisterMap) → is_sound memory ≡ true → Sound memory
sound_parts memory sound = search (rules, nat_tests)

-- Registers that contain no program if memory is sound: the status registers except c, and those from the curtain on.
apart_test : (c e k : ℕ) (there : Bool) → c ≢ 13 → (192 ≤ e) → e < k → (c < 192) → (there && (c == 13 || nat_le e c && nat_lt c k)) ≡ false
apart_test c e k there other low order below = search (rules, nat_tests)

apart_above : (c e k : ℕ) (there : Bool) → 192 ≤ e → e < k → k ≤ c → (there && (c == 13 || nat_le e c && nat_lt c k)) ≡ false
apart_above c e k there low order above = search (rules, nat_tests)

pub status_apart : (memory : RegisterMap) (address : ℕ) → IsTrue (is_sound memory) → address < 192 → address ≢ 13
    → IsApart memory address
status_apart memory address sound below other = search (rules, sound_parts, apart_test)

pub data_apart : (memory : RegisterMap) (address : ℕ) → IsTrue (is_sound memory) → curtain_of memory ≤ address → IsApart memory address
data_apart memory address sound above = search (rules, sound_parts, apart_above)

-- Memory with the same program.
module _ (memory other : RegisterMap) (same : SameProgram memory other) where
  same_end : end_of other ≡ end_of memory
  same_end = sym (ap (λ (c : List ℕ). three_digits c 0) same.c)

  same_curtain : curtain_of other ≡ curtain_of memory
  same_curtain = sym (ap (λ (c : List ℕ). three_digits c 3) same.c)

  same_constant : constant_of other ≡ constant_of memory
  same_constant = sym (ap (λ (c : List ℕ). three_digits c 6) same.c)

  same_top : top_of other ≡ top_of memory
  same_top = sym (ap (λ (size : ℕ). 192 + size) same.size)

  pub same_sound : IsTrue (is_sound memory) → IsTrue (is_sound other)
  same_sound sound = search (rules, sound_parts, same_end, same_constant, same_curtain, same_top)

  pub same_apart : (address : ℕ) → IsApart memory address → IsApart other address
  same_apart address apart = search (rules, same_top, same_end, same_curtain)

-- Two calls in turn. Nothing is required of the second unless the dirty flag was clear after the first.
in_turn : (old middle new : Bool) → middle ≡ old → (IsTrue middle → IsTrue new) → (IsFalse middle → new ≡ middle) → new ≡ old
in_turn old true new same set clear = set refl ∙ same
in_turn old false new same set clear = clear refl ∙ same

-- The effect of the calls so far.
pub record Passed (old new : RamState) : Type 0 where
  pub keeps : KeepsMark old new
  pub left : LeavesMark old new

pub none_yet : (ram : RamState) → Passed ram ram
none_yet ram = record { keeps = stays ram; left = λ sound. refl }

-- One more call. Something is required of it only if the program is unchanged so far.
pub then_apart : (old middle new : RamState) → Passed old middle → KeepsMark middle new
    → (IsTrue (is_sound old.registers) → SameProgram old.registers middle.registers → new.touched ≡ middle.touched)
    → Passed old new
then_apart old middle new first second then = record {
  keeps = turned old middle new first.keeps second;
  left = λ sound.
      in_turn old.touched middle.touched new.touched (first.left sound) second.set
      (λ clear. then sound (first.keeps.clear clear));
}

pub then_left : (old middle new : RamState) → Passed old middle → KeepsMark middle new → LeavesMark middle new → Passed old new
then_left old middle new first second then = search (rules, then_apart, same_sound)

-- Writes of registers.
one_apart : (was sets : Bool) → IsFalse sets → (was || (sets || false)) ≡ was
one_apart true false apart = refl
one_apart false false apart = refl
one_apart was true apart = absurd cc

pub left_by_apart : (ram new : RamState) (address : ℕ) → new.touched ≡ marked_by (address ∷ []) ram
    → IsApart ram.registers address → new.touched ≡ ram.touched
left_by_apart ram new address written apart = written ∙ one_apart ram.touched (sets_mark ram.registers address) apart

pub left_by_write : (ram new : RamState) (address : ℕ) → new.touched ≡ marked_by (address ∷ []) ram
    → (IsTrue (is_sound ram.registers) → IsApart ram.registers address) → LeavesMark ram new
left_by_write ram new address written apart sound = left_by_apart ram new address written (apart sound)

-- Writes of a status register before c, and of d.
pub left_by_status : (ram new : RamState) (address : ℕ) → new.touched ≡ marked_by (address ∷ []) ram
    → nat_lt address 13 ≡ true → LeavesMark ram new
left_by_status ram new address written below = search (rules, ltb-true, left_by_write, status_apart)

pub left_by_flag : (ram new : RamState) → new.touched ≡ marked_by (14 ∷ []) ram → LeavesMark ram new
left_by_flag ram new written = search (rules, left_by_write, status_apart)

pub then_status : (old middle new : RamState) (address : ℕ) → Passed old middle → KeepsMark middle new
    → new.touched ≡ marked_by (address ∷ []) middle → nat_lt address 13 ≡ true → Passed old new
then_status old middle new address first second written below = search (rules, then_left, left_by_status)

pub then_flag : (old middle new : RamState) → Passed old middle → KeepsMark middle new
    → new.touched ≡ marked_by (14 ∷ []) middle → Passed old new
then_flag old middle new first second written = then_left old middle new first second (left_by_flag middle new written)

four_apart : (was a b c d : Bool) → IsFalse a → IsFalse b → IsFalse c → IsFalse d → (was || (a || (b || (c || (d || false))))) ≡ was
four_apart was a b c d one two three four = search rules

pub left_by_alpha : (ram new : RamState) → new.touched ≡ marked_by (5 ∷ 6 ∷ 7 ∷ 8 ∷ []) ram → LeavesMark ram new
left_by_alpha ram new written sound = search (rules, status_apart, four_apart)
