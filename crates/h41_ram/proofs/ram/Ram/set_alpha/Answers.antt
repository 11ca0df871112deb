use Rattle.std.proofs.Common.{◌≡◌, ◌≢◌, ◌⊎◌, inr, ℕ, ◌<◌, ◌≤◌, ◌&&◌, ◌||◌, Bool, true, false, nat_le, nat_lt}
use Rattle.std.proofs.Common.{List, [], ◌∷◌, ◌++◌, set, drop, length, get_or, arith, refl, sym, rules}
use Rattle.std.proofs.lemmas.Bool.Decides.{nat_tests}
use Rattle.h41_ram.specs.declared.parts.Parts.{Parts}
use Rattle.h41_ram.specs.private.KeptParts.{AreKept, with_touched}
use Rattle.h41_ram.specs.RegisterMap.{RegisterMap, IsMemory, digits_from, seven_from, curtain_of, end_of}
use Rattle.h41_ram.specs.RamState.{RamState, KeepsMark, with_alpha_written}
use Rattle.h41_ram.proofs.AlphaTexts.{alpha_keeps_others}
use Rattle.h41_ram.proofs.Writes.{read_status, end_above, status_kept}
use Rattle.h41_ram.proofs.ram.Ram.set_alpha.Goals as goal

-- The dirty flag after a write at an address.
abbrev touched_at : Parts → ℕ → Parts
touched_at parts address = with_touched parts (nat_le parts.end address && nat_lt address parts.curtain)

in_turn : (t a b c d : Bool) → (((t || a) || b) || c) || d ≡ t || (a || (b || (c || (d || false))))
in_turn t a b c d = search rules

-- M, N, O and P with the text's bytes, and the dirty flag.
alpha_set : (ram : RamState) (memory : RegisterMap) (parts one two three four : Parts) (text m n o p spare : List ℕ)
    → record { registers = memory; touched = parts.touched } ≡ ram → length memory.status ≡ 16
    → parts.curtain ≡ curtain_of memory → parts.end ≡ end_of memory
    → one ≡ touched_at parts 5 → two ≡ touched_at one 6 → three ≡ touched_at two 7 → four ≡ touched_at three 8
    → m ≡ digits_from text (seven_from 17) → n ≡ digits_from text (seven_from 10) → o ≡ digits_from text (seven_from 3)
    → p ≡ digits_from text (0 ∷ 1 ∷ 2 ∷ []) ++ drop 6 (get_or memory.status 8 spare)
    → record {
      registers = record memory { status = set (set (set (set memory.status 5 m) 6 n) 7 o) 8 p };
      touched = four.touched;
    } ≡ with_alpha_written ram text
alpha_set ram memory parts one two three four text m n o p spare seen size curtain end is_1 is_2 is_3 is_4 is_m is_n is_o is_p =
    rw (← seen, is_4, is_3, is_2, is_1, is_m, is_n, is_o, is_p, read_status memory 8 spare size (omega arith), curtain, end)
    (rw (in_turn _ _ _ _ _) refl)

-- The parts do not change.
not_c : (n : ℕ) → n < 13 → n ≢ 13
not_c n below = λ equal. absurd (omega (arith, below, equal))

alpha_kept : (count : ℕ) (memory : RegisterMap) (parts one two three four : Parts) (m n o p : List ℕ)
    → IsMemory count memory × AreKept memory parts
    → one ≡ touched_at parts 5 → two ≡ touched_at one 6 → three ≡ touched_at two 7 → four ≡ touched_at three 8
    → IsMemory count (record memory { status = set (set (set (set memory.status 5 m) 6 n) 7 o) 8 p })
    × AreKept (record memory { status = set (set (set (set memory.status 5 m) 6 n) 7 o) 8 p }) four
alpha_kept count memory parts one two three four m n o p kept is_1 is_2 is_3 is_4 =
    let by_m = status_kept count memory parts one 5 5 m kept (not_c 5 (omega arith)) is_1 in
    let by_n = status_kept count (record memory { status = set memory.status 5 m }) one two 6 6 n by_m (not_c 6 (omega arith)) is_2 in
    let by_o = status_kept count (record memory { status = set (set memory.status 5 m) 6 n }) two three 7 7 o by_n
    (not_c 7 (omega arith)) is_3 in
    status_kept count (record memory { status = set (set (set memory.status 5 m) 6 n) 7 o }) three four 8 8 p by_o
    (not_c 8 (omega arith)) is_4

still_above : (parts after : Parts) (address : ℕ) → (parts.sound ≡ true → 16 ≤ parts.end) → after ≡ touched_at parts address
    → after.sound ≡ true → 16 ≤ after.end
still_above parts after address above made = rw made above

-- None of the four registers belongs to the program.
none_of_four : (end curtain at : ℕ) (touched : Bool)
    → touched || ((nat_le end 5 && nat_lt 5 curtain) || ((nat_le end 6 && nat_lt 6 curtain) || ((nat_le end 7 && nat_lt 7 curtain)
    || ((nat_le end 8 && nat_lt 8 curtain) || false)))) ≡ false
    → end ≤ at → at < curtain → (at < 5) ⊎ (8 < at)
none_of_four end curtain at touched off from below = grind (arith, nat_tests)

alpha_keeps : (ram : RamState) (text : List ℕ) → KeepsMark ram (with_alpha_written ram text)
alpha_keeps ram text = record {
  set = λ was. search rules;
  clear = λ off. record {
    size = refl;
    c = sym (alpha_keeps_others ram.registers text 13 (inr (omega arith)));
    program = λ at from below. sym (alpha_keeps_others ram.registers text at
        (none_of_four (end_of ram.registers) (curtain_of ram.registers) at ram.touched (search rules) from below));
  };
}

pub returns-clause-written : goal.returns-clause-written
returns-clause-written g c =
    alpha_set c.args.self.now (record { status = c.self.inside.status; main = c.self.inside.main }) c.self.inside.parts
    c.touch_status.new.self c.touch_status-2.new.self c.touch_status-3.new.self c.touch_status-4.new.self c.args.text
    c.seven_bytes.result c.seven_bytes-2.result c.seven_bytes-3.result c.first_bytes.result c.index-self-8.result
    c.self.view_is c.self.invariant.0.status c.self.invariant.1.curtain c.self.invariant.1.end c.touch_status.ensures
    c.touch_status-2.ensures c.touch_status-3.ensures c.touch_status-4.ensures c.seven_bytes.ensures c.seven_bytes-2.ensures
    c.seven_bytes-3.ensures c.first_bytes.ensures

pub returns-clause-mark : goal.returns-clause-mark
returns-clause-mark g c = rw (returns-clause-written g c) (alpha_keeps c.args.self.now c.args.text)

pub touch_status-requires-clause-above : goal.touch_status-requires-clause-above
touch_status-requires-clause-above g c =
    end_above _ (record { status = c.self.inside.status; main = c.self.inside.main }) c.self.inside.parts c.self.invariant

pub touch_status-requires-2-clause-above : goal.touch_status-requires-2-clause-above
touch_status-requires-2-clause-above g c =
    let first = end_above _ (record { status = c.self.inside.status; main = c.self.inside.main }) c.self.inside.parts c.self.invariant in
    still_above c.self.inside.parts c.touch_status.new.self 5 first c.touch_status.ensures

pub touch_status-requires-3-clause-above : goal.touch_status-requires-3-clause-above
touch_status-requires-3-clause-above g c =
    let first = end_above _ (record { status = c.self.inside.status; main = c.self.inside.main }) c.self.inside.parts c.self.invariant in
    let second = still_above c.self.inside.parts c.touch_status.new.self 5 first c.touch_status.ensures in
    still_above c.touch_status.new.self c.touch_status-2.new.self 6 second c.touch_status-2.ensures

pub touch_status-requires-4-clause-above : goal.touch_status-requires-4-clause-above
touch_status-requires-4-clause-above g c =
    let first = end_above _ (record { status = c.self.inside.status; main = c.self.inside.main }) c.self.inside.parts c.self.invariant in
    let second = still_above c.self.inside.parts c.touch_status.new.self 5 first c.touch_status.ensures in
    let third = still_above c.touch_status.new.self c.touch_status-2.new.self 6 second c.touch_status-2.ensures in
    still_above c.touch_status-2.new.self c.touch_status-3.new.self 7 third c.touch_status-3.ensures

pub invariant_of-self : goal.invariant_of-self
invariant_of-self g c =
    alpha_kept _ (record { status = c.self.inside.status; main = c.self.inside.main }) c.self.inside.parts
    c.touch_status.new.self c.touch_status-2.new.self c.touch_status-3.new.self c.touch_status-4.new.self
    c.seven_bytes.result c.seven_bytes-2.result c.seven_bytes-3.result c.first_bytes.result c.self.invariant
    c.touch_status.ensures c.touch_status-2.ensures c.touch_status-3.ensures c.touch_status-4.ensures
