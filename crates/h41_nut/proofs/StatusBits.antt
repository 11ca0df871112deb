-- A status bit is read as it was set or cleared, and the others do not change.
use Rattle.std.proofs.Common.{◌≡◌, ◌≢◌, ℕ, zero, suc, ◌+◌, ◌-◌, ◌*◌, ◌/◌, ◌%◌, ◌^◌, ◌<◌, ◌≤◌, Bool, true, false, refl, sym, ap, arith, ◌∙◌}
use Rattle.std.specs.Prelude.{◌==◌, if◌then◌else◌}
use Rattle.std.specs.Int.{bit_at}
use Rattle.std.proofs.Math.Nat.{pow-suc}
use Rattle.std.proofs.lemmas.Nat.{and_le_l}
use Rattle.std.proofs.lemmas.Nat.Bits.{and_pow, bit_at_lowest, bit_at-suc}
use Rattle.h41_nut.specs.ProcessorLaws.{StatusIsRead, OtherStatusStays}

-- A number in which the bit at a place was replaced.
abbrev changed : ℕ → ℕ → ℕ → ℕ
changed s n v = s - bit_at s n * 2 ^ n + v * 2 ^ n

-- The half of such a number, and its last bit, if the place is not the last.
halves : (s h b p q v : ℕ) → h ≡ s / 2 → q ≡ p * 2 → b * p ≤ h → (s - b * q + v * q) / 2 ≡ h - b * p + v * p
halves s h b p q v half double fits =
    let x : b * q ≡ b * p * 2 = ap (λ t. b * t) double ∙ omega arith in
    let y : v * q ≡ v * p * 2 = ap (λ t. v * t) double ∙ omega arith in
    omega (arith, x, y, half, fits)

lowest : (s h b p q v : ℕ) → h ≡ s / 2 → q ≡ p * 2 → b * p ≤ h → (s - b * q + v * q) % 2 ≡ s % 2
lowest s h b p q v half double fits =
    let x : b * q ≡ b * p * 2 = ap (λ t. b * t) double ∙ omega arith in
    let y : v * q ≡ v * p * 2 = ap (λ t. v * t) double ∙ omega arith in
    omega (arith, x, y, half, fits)

bit_fits : (s n : ℕ) → bit_at s n * 2 ^ n ≤ s
bit_fits s n = omega (arith, and_pow s n, and_le_l s (2 ^ n))

half_changed : (s n v : ℕ) → changed s (suc n) v / 2 ≡ changed (s / 2) n v
half_changed s n v =
    ap (λ b. (s - b * 2 ^ suc n + v * 2 ^ suc n) / 2) (bit_at-suc s n)
    ∙ halves s (s / 2) (bit_at (s / 2) n) (2 ^ n) (2 ^ suc n) v refl (pow-suc 2 n) (bit_fits (s / 2) n)

lowest_changed : (s n v : ℕ) → changed s (suc n) v % 2 ≡ s % 2
lowest_changed s n v =
    ap (λ b. (s - b * 2 ^ suc n + v * 2 ^ suc n) % 2) (bit_at-suc s n)
    ∙ lowest s (s / 2) (bit_at (s / 2) n) (2 ^ n) (2 ^ suc n) v refl (pow-suc 2 n) (bit_fits (s / 2) n)

bit_read : (s n v : ℕ) → v < 2 → bit_at (changed s n v) n ≡ v
bit_read s zero v small = omega arith
bit_read s (suc n) v small =
    bit_at-suc (changed s (suc n) v) n ∙ ap (λ t. bit_at t n) (half_changed s n v) ∙ bit_read (s / 2) n v small

bit_kept : (s n k v : ℕ) → v < 2 → k ≢ n → bit_at (changed s n v) k ≡ bit_at s k
bit_kept s zero zero v small apart = absurd (apart refl)
bit_kept s zero (suc k) v small apart =
    let half : changed s zero v / 2 ≡ s / 2 = omega arith in
    bit_at-suc (changed s zero v) k ∙ ap (λ t. bit_at t k) half ∙ sym (bit_at-suc s k)
bit_kept s (suc n) zero v small apart = bit_at_lowest (changed s (suc n) v) ∙ lowest_changed s n v ∙ sym (bit_at_lowest s)
bit_kept s (suc n) (suc k) v small apart =
    bit_at-suc (changed s (suc n) v) k ∙ ap (λ t. bit_at t k) (half_changed s n v)
    ∙ bit_kept (s / 2) n k v small (λ equal. apart (ap suc equal)) ∙ sym (bit_at-suc s k)

-- The number of a bit.
put : Bool → ℕ
put true = 1
put false = 0

put_small : (on : Bool) → put on < 2
unfolding put
put_small true = omega arith
put_small false = omega arith

put_weight : (on : Bool) (weight : ℕ) → (if on then weight else 0) ≡ put on * weight
unfolding put
put_weight true weight = omega arith
put_weight false weight = omega arith

put_read : (on : Bool) → (put on == 1) ≡ on
unfolding put
put_read true = refl
put_read false = refl

pub status_read : StatusIsRead
status_read s bit on =
    ap (λ added. bit_at (s.status - bit_at s.status bit * 2 ^ bit + added) bit == 1) (put_weight on (2 ^ bit))
    ∙ ap (λ b. b == 1) (bit_read s.status bit (put on) (put_small on)) ∙ put_read on

pub others_stay : OtherStatusStays
others_stay s bit other on apart =
    ap (λ added. bit_at (s.status - bit_at s.status bit * 2 ^ bit + added) other == 1) (put_weight on (2 ^ bit))
    ∙ ap (λ b. b == 1) (bit_kept s.status bit other (put on) (put_small on) apart)
