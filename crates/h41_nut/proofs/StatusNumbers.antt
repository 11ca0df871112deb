-- The status bits as a number: the effects of testing, setting and clearing one bit.
use Rattle.std.proofs.Common.{◌≡◌, ℕ, zero, suc, ◌+◌, ◌-◌, ◌*◌, ◌^◌, ◌<◌, Bool, true, false, arith, ◌∙◌, ap}
use Rattle.std.specs.Prelude.{◌==◌, if◌then◌else◌}
use Rattle.std.specs.Int.{bit_at}
use Rattle.std.specs.Int.Bits.{or_add_and}
use Rattle.std.specs.Int.RustNames.{bit_and, bit_or}
use Rattle.std.proofs.lemmas.Bool.Decides.{nat_tests}
use Rattle.std.proofs.lemmas.Nat.{and_le_l, and_comm, pow_pos, and-not, or_lt}
use Rattle.bitflags.specs.Sets.{without}
use Rattle.std.proofs.lemmas.Nat.Bits.{and_pow, bit_at-lt}

weight_counts : (bit weight : ℕ) → bit < 2 → 0 < weight → (bit * weight == weight) ≡ (bit == 1)
weight_counts zero weight small some = grind (arith, nat_tests)
weight_counts (suc zero) weight small some = grind (arith, nat_tests)
weight_counts (suc (suc bit)) weight small some = absurd (omega arith)

-- A bit is set if the number has all of its weight.
pub contains_bit : (s n : ℕ) → (bit_and s (2 ^ n) == 2 ^ n) ≡ (bit_at s n == 1)
contains_bit s n = ap (λ met. met == 2 ^ n) (and_pow s n) ∙ weight_counts (bit_at s n) (2 ^ n) (bit_at-lt s n) (pow_pos n)

-- A bit is set by adding its weight, if it was clear.
pub set_bit : (s n : ℕ) → bit_or s (2 ^ n) ≡ s - bit_at s n * 2 ^ n + 2 ^ n
set_bit s n = omega (arith, or_add_and s (2 ^ n), and_pow s n, and_le_l s (2 ^ n))

-- A bit is cleared by subtracting its weight, if it was set.
pub clear_bit : (s n : ℕ) → s < 2 ^ 16 → 2 ^ n < 2 ^ 16 → bit_and s (2 ^ 16 - 1 - 2 ^ n) ≡ s - bit_at s n * 2 ^ n
clear_bit s n small weight =
    omega (arith, and-not 16 (2 ^ n) s weight small, and_comm s (2 ^ 16 - 1 - 2 ^ n), and_comm s (2 ^ n), and_pow s n)

-- A bit that is set or cleared, among the 14.
pub put_bit : (s n : ℕ) (on : Bool) → s < 2 ^ 14 → 2 ^ n < 2 ^ 14
    → (if on then bit_or s (2 ^ n) else without 16 s (2 ^ n)) ≡ s - bit_at s n * 2 ^ n + (if on then 2 ^ n else 0)
put_bit s n true small weight = set_bit s n
put_bit s n false small weight = omega (arith, clear_bit s n (omega arith) (omega arith))

pub put_bit-lt : (s n : ℕ) (on : Bool) → s < 2 ^ 14 → 2 ^ n < 2 ^ 14 → (if on then bit_or s (2 ^ n) else without 16 s (2 ^ n)) < 2 ^ 14
put_bit-lt s n true small weight = or_lt 14 s (2 ^ n) small weight
put_bit-lt s n false small weight = omega (arith, and_le_l s (2 ^ 16 - 1 - 2 ^ n))
