-- Bytes: the status bits S0 to S7, and the bits of digits of two registers.
use Rattle.std.proofs.Common.{◌≡◌, ◌==◌, ℕ, zero, suc, ◌+◌, ◌*◌, ◌/◌, ◌%◌, ◌<◌, ◌≤◌, refl, ap, sym, ◌∙◌, arith}
use Rattle.std.proofs.Math.Nat.{div-div-eq-div-mul}
use Rattle.std.proofs.lemmas.Nat.{and_le_l, and_le_r, le_or_l, le_or_r, or_lt}
use Rattle.std.specs.Int.Bits.{bit_and, bit_or, or_add_and}
use Rattle.h41_arith.specs.DigitRule.{carry_digit}
use Rattle.h41_nut.specs.Pointers.{is_status_set}
use Rattle.h41_nut.specs.Processor.{Processor}

-- Bits of two digits.
pub and_at_most_c : (c a : ℕ) → bit_and c a ≤ c
and_at_most_c c a = and_le_l c a

pub and_at_most_a : (c a : ℕ) → bit_and c a ≤ a
and_at_most_a c a = and_le_r c a

pub and_at_least : (c a : ℕ) → c < 16 → a < 16 → c + a ≤ bit_and c a + 15
and_at_least c a one two = omega (arith, or_add_and c a, or_lt 4 c a one two)

pub or_at_least_c : (c a : ℕ) → c ≤ bit_or c a
or_at_least_c c a = le_or_l c a

pub or_at_least_a : (c a : ℕ) → a ≤ bit_or c a
or_at_least_a c a = le_or_r c a

pub or_at_most : (c a : ℕ) → bit_or c a ≤ c + a
or_at_most c a = omega (arith, or_add_and c a)

-- A bit as a digit.
bit_digit : (bit : ℕ) → bit < 2 → carry_digit (bit == 1) ≡ bit
bit_digit zero less = refl
bit_digit (suc zero) less = refl
bit_digit (suc (suc bit)) less = absurd (omega (arith, less))

-- S0 to S7 form the status byte.
pub status_bits : (p : Processor)
    → p.status % 256
    ≡ carry_digit (is_status_set 0 p) + 2 * carry_digit (is_status_set 1 p) + 4 * carry_digit (is_status_set 2 p)
    + 8 * carry_digit (is_status_set 3 p) + 16 * carry_digit (is_status_set 4 p) + 32 * carry_digit (is_status_set 5 p)
    + 64 * carry_digit (is_status_set 6 p) + 128 * carry_digit (is_status_set 7 p)
status_bits p =
    omega (
      arith,
      bit_digit (p.status / 1 % 2) (omega arith),
      bit_digit (p.status / 2 % 2) (omega arith),
      bit_digit (p.status / 4 % 2) (omega arith),
      bit_digit (p.status / 8 % 2) (omega arith),
      bit_digit (p.status / 16 % 2) (omega arith),
      bit_digit (p.status / 32 % 2) (omega arith),
      bit_digit (p.status / 64 % 2) (omega arith),
      bit_digit (p.status / 128 % 2) (omega arith),
    )

-- A byte that is written to them, and the bits that stay.
pub byte_in_status : (status byte : ℕ) → byte < 256 → (status / 256 * 256 + byte) % 256 ≡ byte
byte_in_status status byte less = omega (arith, less)

-- A byte changes no bit above it.
above_byte : (status byte times : ℕ) → byte < 256 → (status / 256 * 256 + byte) / (256 * times) % 2 ≡ status / (256 * times) % 2
above_byte status byte times less =
    let same : (status / 256 * 256 + byte) / 256 ≡ status / 256 = omega (arith, less) in
    ap (λ n. n % 2)
    (sym (div-div-eq-div-mul (status / 256 * 256 + byte) 256 times) ∙ ap (λ n. n / times) same ∙ div-div-eq-div-mul status 256 times)

module _ (p : Processor) (byte : ℕ) (less : byte < 256) where
  abbrev with_byte : Processor
  with_byte = record p { status = p.status / 256 * 256 + byte }

  pub status_8_kept : is_status_set 8 with_byte ≡ is_status_set 8 p
  status_8_kept = ap (λ bit. bit == 1) (above_byte p.status byte 1 less)

  pub status_9_kept : is_status_set 9 with_byte ≡ is_status_set 9 p
  status_9_kept = ap (λ bit. bit == 1) (above_byte p.status byte 2 less)

  pub status_10_kept : is_status_set 10 with_byte ≡ is_status_set 10 p
  status_10_kept = ap (λ bit. bit == 1) (above_byte p.status byte 4 less)

  pub status_11_kept : is_status_set 11 with_byte ≡ is_status_set 11 p
  status_11_kept = ap (λ bit. bit == 1) (above_byte p.status byte 8 less)

  pub status_12_kept : is_status_set 12 with_byte ≡ is_status_set 12 p
  status_12_kept = ap (λ bit. bit == 1) (above_byte p.status byte 16 less)

  pub status_13_kept : is_status_set 13 with_byte ≡ is_status_set 13 p
  status_13_kept = ap (λ bit. bit == 1) (above_byte p.status byte 32 less)
