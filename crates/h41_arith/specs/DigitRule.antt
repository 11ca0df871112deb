-- The digit rule: how the words of the Nut processor work on a span of places of a register. Two
-- registers are added and subtracted digit by digit with a carry, in base 16 or 10; digits are
-- copied, exchanged, shifted by one place and compared. The rule is stated for all digits; its
-- results for A to F in base 10 are this project's choice.
use Rattle.std.specs.Prelude.{◌≡◌, ℕ, ◌+◌, ◌-◌, ◌*◌, ◌%◌, ◌^◌, ◌<◌, ◌≤◌, ◌⊎◌, Bool, not, ◌&&◌, ◌==◌}
use Rattle.std.specs.Prelude.{nat_lt, nat_le, List, map, slice_index, sum_by, replicate}
use Rattle.std.specs.Prelude.{if◌then◌else◌}
use Rattle.std.specs.List.{list_any}
use Rattle.h41_digits.specs.Register.{IsRegister}
use Rattle.h41_fields.specs.Field.{from_to}

-- One place of a sum: the digit z and the carry out, from x, y and the carry in.
abbrev pub SumDigit : ℕ → ℕ → ℕ → ℕ → ℕ → ℕ → Type 0
SumDigit base x y carry_in z carry_out =
    ((x + y + carry_in < base) × (z ≡ x + y + carry_in) × (carry_out ≡ 0))
    ⊎ ((base ≤ x + y + carry_in) × (z ≡ (x + y + carry_in - base) % 16) × (carry_out ≡ 1))

-- One place of a difference: the digit z and the borrow out, from x, y and the borrow in. If there
-- is a borrow, the digit is x - y - borrow + base, modulo 16. This can be negative, so 16 is added
-- first.
abbrev pub DifferenceDigit : ℕ → ℕ → ℕ → ℕ → ℕ → ℕ → Type 0
DifferenceDigit base x y borrow_in z borrow_out =
    ((y + borrow_in ≤ x) × (z ≡ x - (y + borrow_in)) × (borrow_out ≡ 0))
    ⊎ ((x < y + borrow_in) × (z ≡ (x + base + 16 - (y + borrow_in)) % 16) × (borrow_out ≡ 1))

-- There is a list of carries with the carry in (0 or 1) at place lo and the carry out after place
-- hi, and the rule of one place holds at each place from lo to hi with the carries there. So each
-- of these carries is 0 or 1.
pub record HasCarries (rule : ℕ → ℕ → ℕ → ℕ → ℕ → Type 0) (x y : List ℕ)
    (carry_in lo hi : ℕ) (z : List ℕ) (carry_out : ℕ) : Type 0 where
  pub bit : carry_in ≤ 1
  pub carries : List ℕ
  pub first : slice_index carries lo ≡ carry_in
  pub last : slice_index carries (hi + 1) ≡ carry_out
  pub places : (place : ℕ) → lo ≤ place → place ≤ hi
      → rule (slice_index x place) (slice_index y place) (slice_index carries place)
      (slice_index z place) (slice_index carries (place + 1))

-- At the places from lo to hi, z and the carry out are the sum of x, y and the carry in.
abbrev pub Sum : ℕ → List ℕ → List ℕ → ℕ → ℕ → ℕ → List ℕ → ℕ → Type 0
Sum base x y carry_in lo hi z carry_out = HasCarries (SumDigit base) x y carry_in lo hi z carry_out

-- At the places from lo to hi, z and the borrow out are the difference of x and y, minus the borrow
-- in.
abbrev pub Difference : ℕ → List ℕ → List ℕ → ℕ → ℕ → ℕ → List ℕ → ℕ → Type 0
Difference base x y borrow_in lo hi z borrow_out =
    HasCarries (DifferenceDigit base) x y borrow_in lo hi z borrow_out

-- The base: 10 in decimal mode, 16 in hexadecimal mode.
abbrev pub base_of : Bool → ℕ
base_of decimal = if decimal then 10 else 16

-- A carry as a digit: 1 if it is set, otherwise 0.
abbrev pub carry_digit : Bool → ℕ
carry_digit carry = if carry then 1 else 0

-- The register of 14 zeros.
abbrev pub zeros : List ℕ
zeros = replicate 14 0

-- Outside the places from lo to hi, z has the digits of the other register.
pub record KeepsOutside (other : List ℕ) (lo hi : ℕ) (z : List ℕ) : Type 0 where
  pub below : (place : ℕ) → place < lo → slice_index z place ≡ slice_index other place
  pub above : (place : ℕ) → hi < place → slice_index z place ≡ slice_index other place

-- At the places from lo to hi, the register z and the carry out are the result of a rule such as
-- `Sum` for x, y and the carry in; elsewhere z has the digits of `into`.
pub record HasResult (rule : List ℕ → List ℕ → ℕ → ℕ → ℕ → List ℕ → ℕ → Type 0) (into x y : List ℕ)
    (carry_in : Bool) (lo hi : ℕ) (z : List ℕ) (carry_out : Bool) : Type 0 where
  pub register : IsRegister 14 z
  pub digits : rule x y (carry_digit carry_in) lo hi z (carry_digit carry_out)
  pub outside : KeepsOutside into lo hi z

-- The register z is `into` with x + y + carry in at the places from lo to hi.
abbrev pub SumInto : ℕ → List ℕ → List ℕ → List ℕ → Bool → ℕ → ℕ → List ℕ → Bool → Type 0
SumInto base into x y carry_in lo hi z carry_out =
    HasResult (Sum base) into x y carry_in lo hi z carry_out

-- The register z is `into` with x - y - borrow in at the places from lo to hi.
abbrev pub DifferenceInto : ℕ → List ℕ → List ℕ → List ℕ → Bool → ℕ → ℕ → List ℕ → Bool → Type 0
DifferenceInto base into x y borrow_in lo hi z borrow_out =
    HasResult (Difference base) into x y borrow_in lo hi z borrow_out

-- The register with the given digits at the places from lo to hi, and elsewhere with those of
-- `into`.
unfoldable pub with_places : List ℕ → ℕ → ℕ → (ℕ → ℕ) → List ℕ
with_places into lo hi digit =
    map
    (λ place. if nat_le lo place && nat_le place hi then digit place else slice_index into place)
    (from_to 0 13)

-- A copy: each place from lo to hi gets the digit of x at this place.
abbrev pub copy_of : List ℕ → List ℕ → ℕ → ℕ → List ℕ
copy_of into x lo hi = with_places into lo hi (λ place. slice_index x place)

-- A shift to the left: place lo becomes 0, and each place above it gets the digit of the place
-- below.
abbrev pub shifted_left : List ℕ → List ℕ → ℕ → ℕ → List ℕ
shifted_left into x lo hi =
    with_places into lo hi (λ place. if place == lo then 0 else slice_index x (place - 1))

-- A shift to the right: place hi becomes 0, and each place below it gets the digit of the place
-- above.
abbrev pub shifted_right : List ℕ → List ℕ → ℕ → ℕ → List ℕ
shifted_right into x lo hi =
    with_places into lo hi (λ place. if place == hi then 0 else slice_index x (place + 1))

-- The number that the digits from lo to hi form in base 16; the digit at lo is the least
-- significant one. It is the sum of each digit times 16 to the power of its place in the span.
unfoldable pub span_value : List ℕ → ℕ → ℕ → ℕ
span_value x lo hi = sum_by (λ place. slice_index x place * 16 ^ (place - lo)) (from_to lo hi)

-- Whether x is less than y at the places from lo to hi.
unfoldable pub is_less : List ℕ → List ℕ → ℕ → ℕ → Bool
is_less x y lo hi = nat_lt (span_value x lo hi) (span_value y lo hi)

-- Whether x and y have different digits at some place from lo to hi.
unfoldable pub is_different : List ℕ → List ℕ → ℕ → ℕ → Bool
is_different x y lo hi =
    list_any (λ place. not (slice_index x place == slice_index y place)) (from_to lo hi)

-- Whether x has a digit other than 0 at some place from lo to hi.
abbrev pub is_nonzero : List ℕ → ℕ → ℕ → Bool
is_nonzero x lo hi = is_different x zeros lo hi
