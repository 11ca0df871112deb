-- Registers of the processor and of memory that have 14 digits.
use Rattle.std.proofs.Common.{ℕ, ◌+◌, ◌-◌, ◌<◌, List, [], ◌∷◌, map, length}
use Rattle.std.proofs.Common.{slice_index, slice_index_or, slice_set, if◌then◌else◌, inl, inr, refl, sym, subst, ◌∙◌, arith}
use Rattle.std.specs.Prelude.{◌&&◌, ◌==◌, nat_le, nat_lt, All}
use Rattle.std.specs.List.{AllByRecursion, range_with_len}
use Rattle.std.proofs.Math.ListN.{length-set}
use Rattle.std.proofs.lemmas.Bool.{cases_lt, cond_both}
use Rattle.std.proofs.lemmas.List.{get_or_past}
use Rattle.std.proofs.lemmas.List.Elements.{All-map, All-replicate, All-set}
use Rattle.std.proofs.lemmas.List.FromFn.{length-map-range_with_len}
use Rattle.h41_digits.specs.Register.{IsRegister}
use Rattle.h41_arith.specs.DigitRule.{copy_of, shifted_left, shifted_right, with_places}
use Rattle.h41_fields.specs.Field.{from_to}
use Rattle.h41_nut.specs.RegisterWords.{with_digits}
use Rattle.h41_ram.specs.RegisterMap.{RegisterMap, main_start, register_at, status_end, with_register, zeros}
use Rattle.h41_laws_words.specs.WholeStates.{HoldsRegisters}

pub zeros_register : IsRegister 14 zeros
zeros_register = record { size = refl; each = All-replicate (λ digit. digit < 16) 14 0 (omega arith) }

-- The value at an index.
pub below_at : (most : ℕ) (list : List ℕ) (index : ℕ) → 0 < most → All (λ item. item < most) list → slice_index list index < most
below_at most list index some all = elim (cases_lt index (length list)) [
  | inl within ↦ all index 0 within
  | inr past ↦ subst (λ item. item < most) (sym (get_or_past list index 0 past)) some
]

pub digit_at : (x : List ℕ) (place : ℕ) → IsRegister 14 x → slice_index x place < 16
digit_at x place valid = below_at 16 x place (omega arith) valid.each

-- One digit more.
pub register_set : (x : List ℕ) (place digit : ℕ) → IsRegister 14 x → digit < 16 → IsRegister 14 (slice_set x place digit)
register_set x place digit valid small = record {
  size = length-set x place digit ∙ valid.size;
  each = All-set (λ digit. digit < 16) x place digit small valid.each;
}

pub digits_set : (x : List ℕ) (place : ℕ) (digits : List ℕ) → IsRegister 14 x → AllByRecursion (λ digit. digit < 16) digits
    → IsRegister 14 (with_digits x place digits)
digits_set x place [] valid small = valid
digits_set x place (digit ∷ digits) valid small =
    digits_set (slice_set x place digit) (place + 1) digits (register_set x place digit valid small.0) small.1

-- A digit for each place.
pub placed : (digit : ℕ → ℕ) → ((place : ℕ) → digit place < 16) → IsRegister 14 (map digit (range_with_len 0 14))
placed digit small = record {
  size = length-map-range_with_len digit 0 14;
  each = All-map (λ digit. digit < 16) digit (range_with_len 0 14) (λ k d within. small _);
}

places_register : (into : List ℕ) (lo hi : ℕ) (digit : ℕ → ℕ) → IsRegister 14 into → ((place : ℕ) → digit place < 16)
    → IsRegister 14 (with_places into lo hi digit)
unfolding with_places from_to
places_register into lo hi digit valid small =
    placed (λ place. if nat_le lo place && nat_le place hi then digit place else slice_index into place)
    (λ place. cond_both _ (digit place) (slice_index into place) (λ n. n < 16) (λ _. small place) (λ _. digit_at into place valid))

pub copied : (into x : List ℕ) (lo hi : ℕ) → IsRegister 14 into → IsRegister 14 x → IsRegister 14 (copy_of into x lo hi)
copied into x lo hi valid x_valid = places_register into lo hi (λ place. slice_index x place) valid (λ place. digit_at x place x_valid)

pub up : (into x : List ℕ) (lo hi : ℕ) → IsRegister 14 into → IsRegister 14 x → IsRegister 14 (shifted_left into x lo hi)
up into x lo hi valid x_valid =
    places_register into lo hi (λ place. if place == lo then 0 else slice_index x (place - 1)) valid
    (λ place. cond_both _ 0 (slice_index x (place - 1)) (λ n. n < 16) (λ _. omega arith) (λ _. digit_at x (place - 1) x_valid))

pub down : (into x : List ℕ) (lo hi : ℕ) → IsRegister 14 into → IsRegister 14 x → IsRegister 14 (shifted_right into x lo hi)
down into x lo hi valid x_valid =
    places_register into lo hi (λ place. if place == hi then 0 else slice_index x (place + 1)) valid
    (λ place. cond_both _ 0 (slice_index x (place + 1)) (λ n. n < 16) (λ _. omega arith) (λ _. digit_at x (place + 1) x_valid))

-- Memory.
register_in : (list : List (List ℕ)) (index : ℕ) → All (IsRegister 14) list → IsRegister 14 (slice_index_or list index zeros)
register_in list index all = elim (cases_lt index (length list)) [
  | inl within ↦ all index zeros within
  | inr past ↦ subst (IsRegister 14) (sym (get_or_past list index zeros past)) zeros_register
]

pub held_at : (memory : RegisterMap) (address : ℕ) → HoldsRegisters memory → IsRegister 14 (register_at memory address)
held_at memory address holds =
    cond_both (nat_lt address status_end) (slice_index_or memory.status address zeros) _ (IsRegister 14)
    (λ _. register_in memory.status address holds.status)
    (λ _. cond_both (nat_lt address main_start) zeros (slice_index_or memory.main (address - main_start) zeros) (IsRegister 14)
    (λ _. zeros_register) (λ _. register_in memory.main (address - main_start) holds.main))

pub held_with : (memory : RegisterMap) (address : ℕ) (register : List ℕ) → HoldsRegisters memory → IsRegister 14 register
    → HoldsRegisters (with_register memory address register)
held_with memory address register holds valid =
    cond_both (nat_lt address status_end) (record memory { status = slice_set memory.status address register }) _ HoldsRegisters
    (λ _. assumption (All-set (IsRegister 14) memory.status address register valid holds.status))
    (λ _. cond_both (nat_lt address main_start) memory (record memory { main = slice_set memory.main (address - main_start) register })
    HoldsRegisters (λ _. holds)
    (λ _. assumption (All-set (IsRegister 14) memory.main (address - main_start) register valid holds.main)))
