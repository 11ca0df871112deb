-- Digits of sums, of registers that digits were loaded into, and numbers in a field.
use Rattle.std.proofs.Common.{◌≡◌, ◌≢◌, ℕ, ◌+◌, ◌*◌, ◌<◌, ◌≤◌, List, length, slice_index, slice_set, inl, inr, ◌∙◌, arith, rules}
use Rattle.h41_arith.specs.DigitRule.{KeepsOutside, SumDigit}
use Rattle.h41_arith.specs.DigitRuleLaws.{number_of}
use Rattle.h41_digits.specs.Register.{IsRegister}
use Rattle.h41_fields.specs.Field.{from_to}
use Rattle.h41_nut.specs.Arithmetic.{base_number}
use Rattle.h41_nut.specs.declared.base.Base.{Base}
use Rattle.h41_nut.specs.declared.base.Base.TheVariants.{Decimal, Hexadecimal}

-- A place of a sum that does not carry.
pub no_carry : (base x y carry z other : ℕ) → SumDigit base x y carry z other → x + y + carry < base → (z ≡ x + y + carry) × (other ≡ 0)
no_carry base x y carry z other (inl is) less = (is.1, is.2)
no_carry base x y carry z other (inr is) less = absurd (omega (arith, less, is.0))

-- The same, at known digits.
pub known_digit : (base x y carry z other a b c : ℕ) → SumDigit base x y carry z other → x ≡ a → y ≡ b → carry ≡ c
    → a + b + c < base → (z ≡ a + b + c) × (other ≡ 0)
known_digit base x y carry z other a b c digit is_a is_b is_c less =
    let found = no_carry base x y carry z other digit (omega (arith, less, is_a, is_b, is_c)) in
    (omega (arith, found.0, is_a, is_b, is_c), found.1)

-- Ten digits are in both bases.
pub base_at_least : (base : Base) → 10 ≤ base_number base
base_at_least Hexadecimal = omega arith
base_at_least Decimal = omega arith

-- A digit is read where it was loaded, and others are as before.
pub loaded : (register : List ℕ) (place digit : ℕ) → place < length register → slice_index (slice_set register place digit) place ≡ digit
loaded register place digit inside = search rules

pub beside : (register : List ℕ) (place digit other : ℕ) → other ≢ place
    → slice_index (slice_set register place digit) other ≡ slice_index register other
beside register place digit other apart = search rules

-- The number in the field S&X.
pub exponent_number : (register : List ℕ)
    → number_of 16 register 0 2 ≡ slice_index register 0 + 16 * slice_index register 1 + 256 * slice_index register 2
unfolding from_to
exponent_number register = omega arith

-- That number is below 1000 hexadecimal.
pub exponent_below : (register : List ℕ) → IsRegister 14 register → number_of 16 register 0 2 < 0x1000
exponent_below register is =
    omega (
      arith,
      exponent_number register,
      is.each 0 0 (omega (arith, is.size)),
      is.each 1 0 (omega (arith, is.size)),
      is.each 2 0 (omega (arith, is.size)),
    )

-- What two changes in a field keep, the second after the first.
pub keeps_in_turn : (x y z : List ℕ) (lo hi : ℕ) → KeepsOutside x lo hi y → KeepsOutside y lo hi z → KeepsOutside x lo hi z
keeps_in_turn x y z lo hi one two = record {
  below = λ place less. two.below place less ∙ one.below place less;
  above = λ place more. two.above place more ∙ one.above place more;
}
