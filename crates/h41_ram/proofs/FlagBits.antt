-- A flag that was set or cleared is read so, and the others do not change.
use Rattle.std.proofs.Common.{◌≡◌, ◌≢◌, ℕ, zero, suc, ◌+◌, ◌-◌, ◌*◌, ◌/◌, ◌%◌, ◌^◌, ◌<◌, Bool, true, false, List, length, get_or}
use Rattle.std.proofs.Common.{get_or-set_same, get_or-set_other, inl, inr, refl, ap, arith, ◌∙◌}
use Rattle.std.specs.Prelude.{◌==◌}
use Rattle.std.proofs.lemmas.Bool.{cases_eq}
use Rattle.h41_ram.specs.RegisterMap.{RegisterMap, digit_with, bit_of, with_bit, d_of, zeros, with_flag}
use Rattle.h41_ram.specs.RegisterMapLaws.{FlagIsRead, OtherFlagsStay}

-- A bit of a digit that was set is 1.
set_bit : (digit k : ℕ) → k < 4 → (digit - digit / 2 ^ k % 2 * 2 ^ k + 2 ^ k) / 2 ^ k % 2 ≡ 1
set_bit digit zero four = omega arith
set_bit digit (suc zero) four = omega arith
set_bit digit (suc (suc zero)) four = omega arith
set_bit digit (suc (suc (suc zero))) four = omega arith
set_bit digit (suc (suc (suc (suc k)))) four = absurd (omega arith)

-- A bit of a digit that was cleared is 0.
clear_bit : (digit k : ℕ) → k < 4 → (digit - digit / 2 ^ k % 2 * 2 ^ k + 0) / 2 ^ k % 2 ≡ 0
clear_bit digit zero four = omega arith
clear_bit digit (suc zero) four = omega arith
clear_bit digit (suc (suc zero)) four = omega arith
clear_bit digit (suc (suc (suc zero))) four = omega arith
clear_bit digit (suc (suc (suc (suc k)))) four = absurd (omega arith)

-- The other bits of a digit do not change.
kept_bit : (digit k j : ℕ) (on : Bool) → k < 4 → j < 4 → j ≢ k → digit_with digit (2 ^ k) on / 2 ^ j % 2 ≡ digit / 2 ^ j % 2
kept_bit digit zero zero true four small other = absurd (other refl)
kept_bit digit zero (suc zero) true four small other = omega arith
kept_bit digit zero (suc (suc zero)) true four small other = omega arith
kept_bit digit zero (suc (suc (suc zero))) true four small other = omega arith
kept_bit digit (suc zero) zero true four small other = omega arith
kept_bit digit (suc zero) (suc zero) true four small other = absurd (other refl)
kept_bit digit (suc zero) (suc (suc zero)) true four small other = omega arith
kept_bit digit (suc zero) (suc (suc (suc zero))) true four small other = omega arith
kept_bit digit (suc (suc zero)) zero true four small other = omega arith
kept_bit digit (suc (suc zero)) (suc zero) true four small other = omega arith
kept_bit digit (suc (suc zero)) (suc (suc zero)) true four small other = absurd (other refl)
kept_bit digit (suc (suc zero)) (suc (suc (suc zero))) true four small other = omega arith
kept_bit digit (suc (suc (suc zero))) zero true four small other = omega arith
kept_bit digit (suc (suc (suc zero))) (suc zero) true four small other = omega arith
kept_bit digit (suc (suc (suc zero))) (suc (suc zero)) true four small other = omega arith
kept_bit digit (suc (suc (suc zero))) (suc (suc (suc zero))) true four small other = absurd (other refl)
kept_bit digit zero zero false four small other = absurd (other refl)
kept_bit digit zero (suc zero) false four small other = omega arith
kept_bit digit zero (suc (suc zero)) false four small other = omega arith
kept_bit digit zero (suc (suc (suc zero))) false four small other = omega arith
kept_bit digit (suc zero) zero false four small other = omega arith
kept_bit digit (suc zero) (suc zero) false four small other = absurd (other refl)
kept_bit digit (suc zero) (suc (suc zero)) false four small other = omega arith
kept_bit digit (suc zero) (suc (suc (suc zero))) false four small other = omega arith
kept_bit digit (suc (suc zero)) zero false four small other = omega arith
kept_bit digit (suc (suc zero)) (suc zero) false four small other = omega arith
kept_bit digit (suc (suc zero)) (suc (suc zero)) false four small other = absurd (other refl)
kept_bit digit (suc (suc zero)) (suc (suc (suc zero))) false four small other = omega arith
kept_bit digit (suc (suc (suc zero))) zero false four small other = omega arith
kept_bit digit (suc (suc (suc zero))) (suc zero) false four small other = omega arith
kept_bit digit (suc (suc (suc zero))) (suc (suc zero)) false four small other = omega arith
kept_bit digit (suc (suc (suc zero))) (suc (suc (suc zero))) false four small other = absurd (other refl)
kept_bit digit (suc (suc (suc (suc k)))) j on four small other = absurd (omega arith)
kept_bit digit k (suc (suc (suc (suc j)))) on four small other = absurd (omega arith)

read_bit : (digit k : ℕ) (on : Bool) → k < 4 → (digit_with digit (2 ^ k) on / 2 ^ k % 2 == 1) ≡ on
read_bit digit k true four = ap (λ bit. bit == 1) (set_bit digit k four)
read_bit digit k false four = ap (λ bit. bit == 1) (clear_bit digit k four)

-- A bit of a register after one bit was set or cleared.
bit_of-with_bit : (d : List ℕ) (bit : ℕ) (on : Bool) → bit / 4 < length d → bit_of (with_bit d bit on) bit ≡ on
bit_of-with_bit d bit on inside =
    rw (get_or-set_same d (bit / 4) (digit_with (get_or d (bit / 4) 0) (2 ^ (bit % 4)) on) 0 inside)
    (read_bit (get_or d (bit / 4) 0) (bit % 4) on (omega arith))

bit_of-with_bit_other : (d : List ℕ) (bit other : ℕ) (on : Bool) → other ≢ bit → bit / 4 < length d
    → bit_of (with_bit d bit on) other ≡ bit_of d other
bit_of-with_bit_other d bit other on apart inside = elim (cases_eq (other / 4) (bit / 4)) [
  | inl same ↦
      let bits : other % 4 ≢ bit % 4 = λ equal. apart (omega (arith, same, equal)) in
      let digit = get_or d (bit / 4) 0 in
      rw (same, get_or-set_same d (bit / 4) (digit_with digit (2 ^ (bit % 4)) on) 0 inside)
      (ap (λ n. n == 1) (kept_bit digit (bit % 4) (other % 4) on (omega arith) (omega arith) bits))
  | inr different ↦
      rw (get_or-set_other d (bit / 4) (other / 4) (digit_with (get_or d (bit / 4) 0) (2 ^ (bit % 4)) on) 0 different)
]

-- Register d of the memory after a flag was set or cleared.
d_of-with_flag : (memory : RegisterMap) (flag : ℕ) (on : Bool) → length memory.status ≡ 16
    → d_of (with_flag memory flag on) ≡ with_bit (d_of memory) (55 - flag) on
d_of-with_flag memory flag on size = get_or-set_same memory.status 14 (with_bit (d_of memory) (55 - flag) on) zeros (omega (arith, size))

pub flag_of-with_flag : FlagIsRead
flag_of-with_flag memory flag on has small =
    ap (λ d. bit_of d (55 - flag)) (d_of-with_flag memory flag on has.status)
    ∙ bit_of-with_bit (d_of memory) (55 - flag) on (omega (arith, has.digits))

pub flag_of-with_flag_other : OtherFlagsStay
flag_of-with_flag_other memory flag other on has small other_small apart =
    let bits : 55 - other ≢ 55 - flag = λ equal. apart (omega (arith, equal)) in
    ap (λ d. bit_of d (55 - other)) (d_of-with_flag memory flag on has.status)
    ∙ bit_of-with_bit_other (d_of memory) (55 - flag) (55 - other) on bits (omega (arith, has.digits))
