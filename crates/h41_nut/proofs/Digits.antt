-- Registers that are made place by place.
use Rattle.std.proofs.Common.{◌≡◌, ℕ, zero, suc, ◌+◌, ◌*◌, ◌^◌, ◌<◌, List, [], ◌∷◌, length, slice_index, get_or, sym, ap, ◌∙◌, arith}
use Rattle.std.specs.Int.RustNames.{bit_and, bit_or}
use Rattle.std.specs.List.{AllByRecursion}
use Rattle.std.proofs.lemmas.List.{ext_get_or}
use Rattle.std.proofs.lemmas.List.Elements.{recursion_from_All}
use Rattle.std.proofs.lemmas.List.FromFn.{get_or-map-range_with_len, length-map-range_with_len}
use Rattle.std.proofs.lemmas.Nat.{or_lt, and_le_l, or_block, and_block}
use Rattle.h41_digits.specs.Register.{IsRegister, value}
use Rattle.h41_digits.specs.Packed.{value-cons}
use Rattle.h41_nut.specs.RegisterWords.{by_place, digits_or, digits_and}

-- A register that has the digit at each place.
pub by_place-is : (z : List ℕ) (digit : ℕ → ℕ) → length z ≡ 14 → ((place : ℕ) → place < 14 → get_or z place 0 ≡ digit place)
    → z ≡ by_place digit
by_place-is z digit size each =
    ext_get_or 0 z (by_place digit) (size ∙ sym (length-map-range_with_len digit 0 14)) (λ place inside.
    let below : place < 14 = omega (arith, size) in
    each place below ∙ sym (get_or-map-range_with_len digit 0 14 place place 0 below (omega arith)))

-- An operation on the bits of two numbers is one on each pair of digits.
abbrev Digitwise : (ℕ → ℕ → ℕ) → Type 0
Digitwise bits = (a b x y : ℕ) → a < 16 → b < 16 → (bits a b < 16) × (bits (a + 16 * x) (b + 16 * y) ≡ bits a b + 16 * bits x y)

low_last : (digit above : ℕ) → digit + 16 * above ≡ above * 2 ^ 4 + digit
low_last digit above = omega arith

or_digitwise : Digitwise bit_or
or_digitwise a b x y a_digit b_digit = (
  or_lt 4 a b a_digit b_digit,
  ap (λ n. bit_or n (b + 16 * y)) (low_last a x) ∙ ap (bit_or (x * 2 ^ 4 + a)) (low_last b y) ∙ or_block 4 x y a b a_digit b_digit
      ∙ sym (low_last (bit_or a b) (bit_or x y)),
)

and_digitwise : Digitwise bit_and
and_digitwise a b x y a_digit b_digit = (
  omega (arith, and_le_l a b, a_digit),
  ap (λ n. bit_and n (b + 16 * y)) (low_last a x) ∙ ap (bit_and (x * 2 ^ 4 + a)) (low_last b y) ∙ and_block 4 x y a b a_digit b_digit
      ∙ sym (low_last (bit_and a b) (bit_and x y)),
)

abbrev AreDigits : List ℕ → Type 0
AreDigits digits = AllByRecursion (λ digit. digit < 16) digits

lowest : (bits : ℕ → ℕ → ℕ) → Digitwise bits → (a b d : ℕ) (x y z : List ℕ) → a < 16 → b < 16 → d < 16
    → value (d ∷ z) ≡ bits (value (a ∷ x)) (value (b ∷ y)) → (d ≡ bits a b) × (value z ≡ bits (value x) (value y))
lowest bits law a b d x y z a_digit b_digit d_digit held =
    let digit = law a b (value x) (value y) a_digit b_digit in
    let whole : d + 16 * value z ≡ bits a b + 16 * bits (value x) (value y) =
    sym (value-cons d z) ∙ held ∙ ap (λ n. bits n (value (b ∷ y))) (value-cons a x) ∙ ap (bits (a + 16 * value x)) (value-cons b y)
    ∙ digit.1 in
    (omega (arith, whole, d_digit, digit.0), omega (arith, whole, d_digit, digit.0))

each_place : (bits : ℕ → ℕ → ℕ) → Digitwise bits → (x y z : List ℕ) → AreDigits x → AreDigits y → AreDigits z → length x ≡ length z
    → length y ≡ length z → value z ≡ bits (value x) (value y) → (place : ℕ) → place < length z
    → get_or z place 0 ≡ bits (get_or x place 0) (get_or y place 0)
each_place bits law x y [] p q r same_x same_y held place inside = absurd (omega (arith, inside))
each_place bits law [] y (d ∷ z) p q r same_x same_y held place inside = absurd (omega (arith, same_x))
each_place bits law (a ∷ x) [] (d ∷ z) p q r same_x same_y held place inside = absurd (omega (arith, same_y))
each_place bits law (a ∷ x) (b ∷ y) (d ∷ z) p q r same_x same_y held zero inside = (lowest bits law a b d x y z p.0 q.0 r.0 held).0
each_place bits law (a ∷ x) (b ∷ y) (d ∷ z) p q r same_x same_y held (suc place) inside =
    each_place bits law x y z p.1 q.1 r.1 (omega (arith, same_x)) (omega (arith, same_y))
    (lowest bits law a b d x y z p.0 q.0 r.0 held).1 place (omega (arith, inside))

bitwise : (bits : ℕ → ℕ → ℕ) → Digitwise bits → (x y z : List ℕ) → IsRegister 14 x → IsRegister 14 y → IsRegister 14 z
    → value z ≡ bits (value x) (value y) → z ≡ by_place (λ place. bits (slice_index x place) (slice_index y place))
bitwise bits law x y z p q r held =
    by_place-is z (λ place. bits (slice_index x place) (slice_index y place)) r.size (λ place inside.
    each_place bits law x y z (recursion_from_All _ x p.each) (recursion_from_All _ y q.each) (recursion_from_All _ z r.each)
    (p.size ∙ sym r.size) (q.size ∙ sym r.size) held place (omega (arith, r.size, inside)))

pub is_digits_or : (x y z : List ℕ) → IsRegister 14 x → IsRegister 14 y → IsRegister 14 z → value z ≡ bit_or (value x) (value y)
    → z ≡ digits_or x y
is_digits_or x y z = bitwise bit_or or_digitwise x y z

pub is_digits_and : (x y z : List ℕ) → IsRegister 14 x → IsRegister 14 y → IsRegister 14 z → value z ≡ bit_and (value x) (value y)
    → z ≡ digits_and x y
is_digits_and x y z = bitwise bit_and and_digitwise x y z

-- The bits of two numbers fit if both numbers do.
pub or_fits : (a b : ℕ) → a < 16 ^ 14 → b < 16 ^ 14 → bit_or a b < 16 ^ 14
or_fits a b a_fits b_fits = or_lt 56 a b a_fits b_fits
