-- What the private functions of sums promise to each other: the loop over the digits of a span, and
-- the carries of a sum of whole words.
use Rattle.std.specs.Prelude.{◌≡◌, ℕ, ◌+◌, ◌-◌, ◌*◌, ◌/◌, ◌%◌, ◌^◌, Bool, List, bit_and, bit_xor}
use Rattle.h41_digits.specs.Register.{value_between}
use Rattle.h41_arith.specs.DigitRule.{SumDigit, DifferenceDigit, HasCarries, HasResult, carry_digit}
use Rattle.h41_arith.specs.DigitRule.{zeros}
use Rattle.h41_arith.specs.declared.sums.DigitOperation.{DigitOperation}
use Rattle.h41_arith.specs.declared.sums.DigitOperation.TheVariants.{Add, Subtract}

-- The rule of one place for an operation.
abbrev pub rule_of : DigitOperation → ℕ → ℕ → ℕ → ℕ → ℕ → ℕ → Type 0
rule_of Add base = SumDigit base
rule_of Subtract base = DifferenceDigit base

-- One place by a rule, with Booleans as carries.
abbrev pub HasDigit : (ℕ → ℕ → ℕ → ℕ → ℕ → Type 0) → ℕ → ℕ → Bool → ℕ → Bool → Type 0
HasDigit rule x y carry_in z carry_out = rule x y (carry_digit carry_in) z (carry_digit carry_out)

-- The register z is `into` with the sum or the difference of x and y in base 10 at the places from
-- lo to hi; the operation decides which.
abbrev pub RuleInto : DigitOperation → List ℕ → List ℕ → List ℕ → Bool → ℕ → ℕ → List ℕ → Bool
    → Type 0
RuleInto operation into x y carry_in lo hi z carry_out =
    HasResult (HasCarries (rule_of operation 10)) into x y carry_in lo hi z carry_out

-- The digits of a sum or a difference in base 10 as one number in the places from lo to hi, with
-- the carry above them.
pub record IsRuleTotal (operation : DigitOperation) (x y : List ℕ)
    (carry_in : Bool) (lo hi total : ℕ) : Type 0 where
  pub digits : List ℕ
  pub carry_out : Bool
  pub rule : RuleInto operation zeros x y carry_in lo hi digits carry_out
  pub number : total
      ≡ (value_between digits lo hi + 16 ^ (hi + 1 - lo) * carry_digit carry_out) * 16 ^ lo

-- A 1 in each digit of a register, and in the digit above them.
abbrev pub all_ones : ℕ
all_ones = 0x111111111111111

-- A 1 in each digit of a sum or a difference of two numbers into which the digit below carries, or
-- from which it borrows. There the last bit differs from the exclusive or of the last bits of the
-- two numbers and of the carry.
abbrev pub carried_of : ℕ → ℕ → ℕ → ℕ → ℕ
carried_of first second carry result =
    bit_and (bit_xor (bit_xor (bit_xor first second) carry) result) all_ones

-- The sum of two numbers in base 10: their sum in base 16 with a carry, plus six at each digit that
-- carries if six is added to it.
abbrev pub decimal_total_of : ℕ → ℕ → ℕ → ℕ → ℕ
decimal_total_of first second carry sixes =
    let sum : ℕ = first + second + carry in
    sum + 3 * carried_of first second carry (sum + sixes) / 8

-- The difference of two numbers in base 10: their difference in base 16 with a borrow, modulo 2 to
-- the power of 64, minus six at each digit that borrows.
abbrev pub decimal_remainder_of : ℕ → ℕ → ℕ → ℕ
decimal_remainder_of first second borrow =
    let difference : ℕ = (first + (2 ^ 64 - (second + borrow))) % 2 ^ 64 in
    (difference + (2 ^ 64 - 3 * carried_of first second borrow difference / 8)) % 2 ^ 64

-- The digits of a number are in the span of the register, and the carry is the 1 that the number
-- may have above the span.
abbrev pub IsInParts : ℕ → ℕ → ℕ → List ℕ → Bool → Type 0
IsInParts number lo hi z carry =
    value_between z lo hi + 16 ^ (hi + 1 - lo) * carry_digit carry ≡ number
