-- Each exact size above zero has its nearest decimal: it is cut to eleven digits, and these are rounded.
use Rattle.std.proofs.Common.{◌≡◌, ℕ, zero, suc, ◌+◌, ◌-◌, ◌*◌, ◌/◌, ◌^◌, ◌<◌, ◌≤◌, inl, inr, ◌∙◌, ap, refl, subst, arith, Result, Ok, Err}
use Rattle.std.proofs.Common.{true, false}
use Rattle.std.specs.Prelude.{ℤ, pos, negsuc, nat_le}
use Rattle.std.proofs.Math.Nat.{mul-le-mul_right, mul-le-mul, div-mul-le_self, lt-div-mul-add}
use Rattle.std.proofs.lemmas.Nat.{pow-add, le-div, div_below}
use Rattle.std.proofs.lemmas.Bool.{cases_lt}
use Rattle.std.proofs.lemmas.Bool.Decides.{nat_tests}
use Rattle.h41_decimal.specs.Signs.{with_sign}
use Rattle.h41_decimal.specs.Units.{size_of, units}
use Rattle.h41_decimal.specs.NearestDecimal.{Exact, Fraction, IsAtLeast, IsBelow, IsBounded, IsNear, IsRounded, IsTenDigits}
use Rattle.h41_decimal.specs.NearestDecimal.{RootOf, down_of, up_of}
use Rattle.h41_decimal.specs.declared.fault.DecimalFault.{DecimalFault}
use Rattle.h41_decimal.specs.declared.fault.DecimalFault.TheVariants.{Range}
use Rattle.h41_decimal.specs.declared.sign.Sign.{Sign}
use Rattle.h41_decimal.specs.declared.ten.Ten.{Ten}
use Rattle.h41_decimal.specs.declared.ten.Ten.TheVariants.{Zero, Nonzero}
use Rattle.h41_decimal.proofs.Nearest.{near_at, ten_pow_pos, below_more, at_least_less}
use Rattle.h41_decimal.proofs.Cuts.{power_parts}
use Rattle.h41_laws_words.proofs.Powers.{HasDigits, has_digits, has_root, below_power}

-- An exact size is between a whole number of eleven digits and the next one, in steps of a power of ten.
record HasEleven (v : Exact) : Type 0 where
  whole : ℕ
  scale : ℕ
  bar : ℕ
  long : 10 ^ 10 ≤ whole
  short : whole < 10 ^ 11
  at_least : IsAtLeast v (whole * 10 ^ scale) (10 ^ bar)
  below : IsBelow v ((whole + 1) * 10 ^ scale) (10 ^ bar)

-- The first eleven of more digits.
first_eleven : (v : Exact) (whole bar count : ℕ) → 10 ^ 10 ≤ whole → 10 ^ count ≤ whole → whole < 10 ^ (count + 1) → 10 ≤ count
    → IsAtLeast v whole (10 ^ bar) → IsBelow v (whole + 1) (10 ^ bar) → HasEleven v
first_eleven v whole bar count long least next enough at_least below =
    let dropped = count - 10 in
    let p : ℕ = 10 ^ dropped in
    let p_pos : 0 < p = ten_pow_pos dropped in
    let q_pos : 0 < 10 ^ bar = ten_pow_pos bar in
    let parts : 10 ^ 10 * 10 ^ dropped ≡ 10 ^ count = power_parts 10 dropped count (omega arith) in
    let more : 10 ^ 11 * 10 ^ dropped ≡ 10 ^ (count + 1) = power_parts 11 dropped (count + 1) (omega arith) in
    let low : whole / p * p ≤ whole = div-mul-le_self whole p in
    let high : whole < whole / p * p + p = lt-div-mul-add p_pos in
    let next_whole : whole + 1 ≤ (whole / p + 1) * p = omega arith in
    record {
      whole = whole / p;
      scale = dropped;
      bar = bar;
      long = le-div (10 ^ 10) whole p p_pos (omega arith);
      short = div_below whole p (10 ^ 11) p_pos (omega arith);
      at_least = at_least_less v whole (10 ^ bar) (whole / p * p) (10 ^ bar) q_pos q_pos (mul-le-mul_right (10 ^ bar) low) at_least;
      below =
          below_more v (whole + 1) (10 ^ bar) ((whole / p + 1) * p) (10 ^ bar) q_pos q_pos (mul-le-mul_right (10 ^ bar) next_whole) below;
    }

ten_at_least : (count whole : ℕ) → 10 ^ 10 ≤ whole → whole < 10 ^ (count + 1) → 10 ≤ count
ten_at_least count whole long next = elim (cases_lt count 10) [
  | inl few ↦
      let parts : 10 ^ (9 - count) * 10 ^ (count + 1) ≡ 10 ^ 10 = power_parts (9 - count) (count + 1) 10 (omega arith) in
      let some : 1 ≤ 10 ^ (9 - count) = ten_pow_pos (9 - count) in
      let less : 1 * 10 ^ (count + 1) ≤ 10 ^ (9 - count) * 10 ^ (count + 1) = mul-le-mul_right (10 ^ (count + 1)) some in
      absurd (omega arith)
  | inr enough ↦ enough
]

from_whole : (v : Exact) (whole bar : ℕ) → 10 ^ 10 ≤ whole → IsAtLeast v whole (10 ^ bar) → IsBelow v (whole + 1) (10 ^ bar) → HasEleven v
from_whole v zero bar long at_least below = absurd (omega arith)
from_whole v (suc whole) bar long at_least below =
    let same : whole + 1 ≡ suc whole = omega arith in
    let count : HasDigits (suc whole) = subst HasDigits same (has_digits whole) in
    let enough = ten_at_least count.count (suc whole) long count.next in
    first_eleven v (suc whole) bar count.count long count.least count.next enough at_least below

fraction_whole : (n d q p : ℕ) → 0 < d → q ≡ 10 ^ 10 * p → d ≤ p → 0 < n
    → (n * q / d * d ≤ n * q) × (n * q < (n * q / d + 1) * d) × (10 ^ 10 ≤ n * q / d)
fraction_whole n d q p d_pos q_is small n_pos =
    let low : n * q / d * d ≤ n * q = div-mul-le_self (n * q) d in
    let high : n * q < n * q / d * d + d = lt-div-mul-add d_pos in
    let some : 1 ≤ n = n_pos in
    let many : 1 * q ≤ n * q = mul-le-mul_right q some in
    (low, omega arith, le-div (10 ^ 10) (n * q) d d_pos (omega arith))

fraction_eleven : (n d : ℕ) → 0 < n → 0 < d → HasEleven (Fraction n d)
fraction_eleven n d n_pos d_pos =
    let q : ℕ = 10 ^ (10 + d) in
    let parts : q ≡ 10 ^ 10 * 10 ^ d = pow-add 10 10 d in
    let less : d < 10 ^ d = below_power d in
    let h = fraction_whole n d q (10 ^ d) d_pos parts (omega arith) n_pos in
    from_whole (Fraction n d) (n * q / d) (10 + d) h.2 h.0 h.1

root_long : (n w : ℕ) → 0 < n → n * (10 ^ 10 * 10 ^ 10) < (w + 1) * (w + 1) → 10 ^ 10 ≤ w
root_long n w n_pos next = elim (cases_lt w (10 ^ 10)) [
  | inl less ↦
      let few : w + 1 ≤ 10 ^ 10 = omega arith in
      let square : (w + 1) * (w + 1) ≤ 10 ^ 10 * 10 ^ 10 = mul-le-mul few few in
      absurd (omega arith)
  | inr enough ↦ enough
]

root_eleven : (n : ℕ) → 0 < n → HasEleven (RootOf n)
root_eleven n n_pos =
    let w = has_root (n * (10 ^ 10 * 10 ^ 10)) in
    from_whole (RootOf n) w.root 10 (root_long n w.root n_pos w.next) w.least w.next

-- The answer within the bounds.
pub record HasBounded (sign : Sign) (digits : ℕ) (exponent : ℤ) : Type 0 where
  pub answer : Result Ten DecimalFault
  pub bounded : IsBounded sign digits exponent answer

pub ten_of : (sign : Sign) (digits steps : ℕ) → IsTenDigits digits → steps ≤ 198 → Ten
ten_of sign digits steps ten small = Nonzero sign record {
  mantissa = record { digits = digits; at_least = ten.at_least; below = ten.below };
  exponent = record { biased = steps; in_range = small };
}

pub units-ten_of : (sign : Sign) (digits steps : ℕ) (ten : IsTenDigits digits) (small : steps ≤ 198)
    → units (ten_of sign digits steps ten small) ≡ with_sign sign (size_of digits steps)
unfolding ten_of
units-ten_of sign digits steps ten small = refl

has_bounded : (sign : Sign) (digits : ℕ) (exponent : ℤ) → IsTenDigits digits → HasBounded sign digits exponent
has_bounded sign digits (negsuc steps) ten = record { answer = Ok Zero; bounded = refl }
has_bounded sign digits (pos steps) ten = elim (cases_lt 198 steps) [
  | inl above ↦ let t : nat_le steps 198 ≡ false = grind (arith, nat_tests) in record { answer = Err Range; bounded = rw t refl }
  | inr within ↦
      let t : nat_le steps 198 ≡ true = grind (arith, nat_tests) in
      record { answer = Ok (ten_of sign digits steps ten within); bounded = rw t (units-ten_of sign digits steps ten within) }
]

-- The rounded answer.
pub record HasRounded (sign : Sign) (v : Exact) : Type 0 where
  pub answer : Result Ten DecimalFault
  pub rounded : IsRounded sign v answer

rounded_by : (sign : Sign) (v : Exact) (n : ℕ) (exponent : ℤ) → IsTenDigits n → IsNear v n (up_of exponent) (down_of exponent)
    → HasRounded sign v
rounded_by sign v n exponent ten near =
    let bounded = has_bounded sign n exponent ten in
    record {
      answer = bounded.answer;
      rounded = record { digits = n; exponent = exponent; ten_digits = ten; near = near; bounded = bounded.bounded };
    }

bar_above : (n m w up bar place : ℕ) → up * bar ≡ place → n * place ≡ m * (10 * w) → (n * up) * bar ≡ (m * (10 * w)) * 1
bar_above n m w up bar place parts link =
    let a : n * (up * bar) ≡ n * place = ap (λ t. n * t) parts in
    omega arith

bar_below : (n m w down bar place : ℕ) → place * down ≡ bar → n * place ≡ m * (10 * w) → (n * 1) * bar ≡ (m * (10 * w)) * down
bar_below n m w down bar place parts link =
    let a : n * (place * down) ≡ n * bar = ap (λ t. n * t) parts in
    let b : (n * place) * down ≡ (m * (10 * w)) * down = ap (λ t. t * down) link in
    omega arith

rounded_from : (sign : Sign) (v : Exact) (cut : HasEleven v) (m n place : ℕ) → 10 * m ≤ cut.whole + 5 → cut.whole + 5 < 10 * m + 10
    → 10 ^ 9 ≤ m → IsTenDigits n → n * 10 ^ place ≡ m * (10 * 10 ^ cut.scale) → HasRounded sign v
rounded_from sign v cut m n place low high m_size ten link = elim (cases_lt place cut.bar) [
  | inl below ↦
      let more = cut.bar - place - 1 in
      rounded_by sign v n (negsuc more) ten
      (near_at v cut.whole m n cut.scale 0 (more + 1) cut.bar cut.at_least cut.below cut.long low high m_size
      (bar_below n m (10 ^ cut.scale) (10 ^ (more + 1)) (10 ^ cut.bar) (10 ^ place)
      (power_parts place (more + 1) cut.bar (omega arith)) link))
  | inr above ↦
      let steps = place - cut.bar in
      rounded_by sign v n (pos steps) ten
      (near_at v cut.whole m n cut.scale steps 0 cut.bar cut.at_least cut.below cut.long low high m_size
      (bar_above n m (10 ^ cut.scale) (10 ^ steps) (10 ^ cut.bar) (10 ^ place)
      (power_parts steps cut.bar place (omega arith)) link))
]

-- The place of the tenth digit.
next_place : (n scale : ℕ) → n * 10 ^ (scale + 1) ≡ n * (10 * 10 ^ scale)
next_place n scale = ap (λ t. n * t) (pow-add 10 scale 1 ∙ omega arith)

-- The place of the ninth digit.
second_place : (scale : ℕ) → 1000000000 * 10 ^ (scale + 2) ≡ 10000000000 * (10 * 10 ^ scale)
second_place scale = ap (λ t. 1000000000 * t) (pow-add 10 scale 2) ∙ omega arith

eleven_rounded : (sign : Sign) (v : Exact) → HasEleven v → HasRounded sign v
eleven_rounded sign v cut =
    let long : 10 ^ 10 ≤ cut.whole = cut.long in
    let short : cut.whole < 10 ^ 11 = cut.short in
    elim (cases_lt ((cut.whole + 5) / 10) (10 ^ 10)) [
      | inl fits ↦
          let m = (cut.whole + 5) / 10 in
          rounded_from sign v cut m m (cut.scale + 1) (omega arith) (omega arith) (omega arith)
          record { at_least = omega arith; below = omega arith } (next_place m cut.scale)
      | inr up ↦
          rounded_from sign v cut 10000000000 1000000000 (cut.scale + 2) (omega arith) (omega arith) (omega arith)
          record { at_least = omega arith; below = omega arith } (second_place cut.scale)
    ]

pub fraction_rounded : (sign : Sign) (n d : ℕ) → 0 < n → 0 < d → HasRounded sign (Fraction n d)
fraction_rounded sign n d n_pos d_pos = eleven_rounded sign (Fraction n d) (fraction_eleven n d n_pos d_pos)

pub root_rounded : (sign : Sign) (n : ℕ) → 0 < n → HasRounded sign (RootOf n)
root_rounded sign n n_pos = eleven_rounded sign (RootOf n) (root_eleven n n_pos)
