-- Whole quotients rounded down, and their remainders.
use Rattle.std.proofs.Common.{◌≡◌, ℕ, zero, suc, ◌+◌, ◌-◌, ◌*◌, ◌/◌, ◌%◌, ◌^◌, ◌<◌, ◌≤◌, sym, ◌∙◌, ap, refl, subst, arith, Result, Ok}
use Rattle.std.specs.Prelude.{ℤ, pos, ◌+ℤ◌, ◌-ℤ◌, ◌*ℤ◌, ◌<ℤ◌, ◌≤ℤ◌, unsigned_abs}
use Rattle.std.proofs.lemmas.Int.{ints}
use Rattle.std.proofs.Math.Nat.{mul-pos, mul-lt-mul_of_pos_right}
use Rattle.std.proofs.lemmas.Nat.{mul-mod_first, div-add-mod', mod_below}
use Rattle.h41_decimal.specs.Signs.{with_sign, opposite_of, product_of}
use Rattle.h41_decimal.specs.Units.{size, units}
use Rattle.h41_decimal.specs.NearestDecimal.{Fraction, Nearest}
use Rattle.h41_decimal.specs.Operations.{IsFloor, RoundsRest, NearestModulo}
use Rattle.h41_decimal.specs.private.Cut.{RoundsWhole}
use Rattle.h41_decimal.specs.declared.fault.DecimalFault.{DecimalFault}
use Rattle.h41_decimal.specs.declared.parts.Magnitude.{Magnitude}
use Rattle.h41_decimal.specs.declared.sign.Sign.{Sign}
use Rattle.h41_decimal.specs.declared.sign.Sign.TheVariants.{Plus, Minus}
use Rattle.h41_decimal.specs.declared.ten.Ten.{Ten}
use Rattle.h41_decimal.specs.declared.ten.Ten.TheVariants.{Zero, Nonzero}
use Rattle.h41_decimal.proofs.Nearest.{ten_pow_pos}
use Rattle.h41_decimal.proofs.Cuts.{power_parts}
use Rattle.h41_decimal.proofs.Exact.{exact_fraction}
use Rattle.h41_decimal.proofs.Signed.{not_zero, nearest_of, nearest_of_zero, signed-mul, signed-sub, signed-sub_turned, signed-sub_same}
use Rattle.h41_decimal.proofs.Steps.{at_unit_scale}
use Rattle.h41_decimal.proofs.Tens.{size_pos, unsigned_abs-signed, product_with_plus, nearest_along}

-- The number y is between two products with a divisor, in the order of its sign.
IsBetween : Sign → ℤ → ℤ → ℤ → Type 0
IsBetween Plus low y high = (low ≤ℤ y) × (y <ℤ high)
IsBetween Minus low y high = (y ≤ℤ low) × (high <ℤ y)

floor_at : (s : Sign) (w y : ℤ) (X : ℕ) (low high : ℤ) → 0 < X → w *ℤ with_sign s X ≡ low → (w +ℤ pos 1) *ℤ with_sign s X ≡ high
    → IsBetween s low y high → IsFloor w y (with_sign s X)
unfolding IsBetween
floor_at Plus w y X low high some e f between = (subst (λ t. t ≤ℤ y) (sym e) between.0, subst (λ t. y <ℤ t) (sym f) between.1)
floor_at Minus w y zero low high some e f between = absurd (omega arith)
floor_at Minus w y (suc X) low high some e f between = (subst (λ t. y ≤ℤ t) (sym e) between.0, subst (λ t. t <ℤ y) (sym f) between.1)

between_same : (s : Sign) (a b c : ℕ) → a ≤ b → b < c → IsBetween s (with_sign s a) (with_sign s b) (with_sign s c)
unfolding IsBetween
between_same Plus a b c h k = (omega (arith, ints), omega (arith, ints))
between_same Minus a b c h k = (omega (arith, ints), omega (arith, ints))

between_apart : (s : Sign) (a b c : ℕ) → b ≤ a → c < b
    → IsBetween s (with_sign (opposite_of s) a) (with_sign (opposite_of s) b) (with_sign (opposite_of s) c)
unfolding IsBetween
between_apart Plus a b c h k = (omega (arith, ints), omega (arith, ints))
between_apart Minus a b c h k = (omega (arith, ints), omega (arith, ints))

product_with_minus : (s : Sign) → product_of s Minus ≡ opposite_of s
product_with_minus Plus = refl
product_with_minus Minus = refl

opposite_twice : (s : Sign) → opposite_of (opposite_of s) ≡ s
opposite_twice Plus = refl
opposite_twice Minus = refl

one_less : (q : ℕ) → with_sign Minus (suc q) +ℤ pos 1 ≡ with_sign Minus q
one_less zero = refl
one_less (suc q) = omega (arith, ints)

-- The remainder of two numbers with the same sign.
pub rest_of_same : (s : Sign) (Y X q r : ℕ) (answer : Result Ten DecimalFault) → Y ≡ q * X + r → r < X → Nearest (with_sign s r) 1 answer
    → RoundsRest (with_sign s Y) (with_sign s X) answer
rest_of_same s Y X q r answer e less nearest =
    let x : with_sign s X *ℤ with_sign Plus q ≡ with_sign s (X * q) = signed-mul s Plus X q
    ∙ ap (λ t. with_sign t (X * q)) (product_with_plus s) in
    let d : with_sign s Y -ℤ with_sign s X *ℤ with_sign Plus q ≡ with_sign s r =
    ap (λ z. with_sign s Y -ℤ z) x ∙ signed-sub s Y (X * q) r (omega arith) in
    record {
      whole = pos q;
      floor =
          floor_at s (pos q) (with_sign s Y) X (with_sign s (q * X)) (with_sign s ((q + 1) * X))
          (omega arith) (signed-mul Plus s q X) (signed-mul Plus s (q + 1) X)
          (between_same s (q * X) Y ((q + 1) * X) (omega arith) (omega arith));
      rest = nearest_along _ _ 1 answer d nearest;
    }

-- The remainder of two numbers with different signs, if it is not zero.
pub rest_of_apart : (s : Sign) (Y X q r : ℕ) (answer : Result Ten DecimalFault) → Y ≡ q * X + r → 0 < r → r < X
    → Nearest (with_sign s (X - r)) 1 answer → RoundsRest (with_sign (opposite_of s) Y) (with_sign s X) answer
rest_of_apart s Y X q r answer e some less nearest =
    let x : with_sign s X *ℤ with_sign Minus (suc q) ≡ with_sign (opposite_of s) (X * suc q) =
    signed-mul s Minus X (suc q) ∙ ap (λ t. with_sign t (X * suc q)) (product_with_minus s) in
    let xq : X * suc q ≡ X * q + X = omega arith in
    let d : with_sign (opposite_of s) Y -ℤ with_sign s X *ℤ with_sign Minus (suc q) ≡ with_sign s (X - r) =
    ap (λ z. with_sign (opposite_of s) Y -ℤ z) x
    ∙ (signed-sub_turned (opposite_of s) Y (X * suc q) (X - r) (omega arith) ∙ ap (λ t. with_sign t (X - r)) (opposite_twice s)) in
    let l : suc q * X ≡ q * X + X = omega arith in
    record {
      whole = with_sign Minus (suc q);
      floor =
          floor_at s (with_sign Minus (suc q)) (with_sign (opposite_of s) Y) X
          (with_sign (opposite_of s) (suc q * X)) (with_sign (opposite_of s) (q * X)) (omega arith)
          (signed-mul Minus s (suc q) X) (ap (λ z. z *ℤ with_sign s X) (one_less q) ∙ signed-mul Minus s q X)
          (between_apart s (suc q * X) Y (q * X) (omega arith) (omega arith));
      rest = nearest_along _ _ 1 answer d nearest;
    }

-- The remainder of two numbers with different signs, if it is zero.
pub rest_of_apart_none : (s : Sign) (Y X q : ℕ) → Y ≡ q * X → 0 < Y → 0 < X
    → RoundsRest (with_sign (opposite_of s) Y) (with_sign s X) (Ok Zero)
rest_of_apart_none s Y X zero e some X_pos = absurd (omega arith)
rest_of_apart_none s Y X (suc q) e some X_pos =
    let x : with_sign s X *ℤ with_sign Minus (suc q) ≡ with_sign (opposite_of s) (X * suc q) =
    signed-mul s Minus X (suc q) ∙ ap (λ t. with_sign t (X * suc q)) (product_with_minus s) in
    let d : with_sign (opposite_of s) Y -ℤ with_sign s X *ℤ with_sign Minus (suc q) ≡ pos 0 =
    ap (λ z. with_sign (opposite_of s) Y -ℤ z) x ∙ signed-sub_same (opposite_of s) Y (X * suc q) (omega arith) in
    let l : suc q * X ≡ q * X + X = omega arith in
    record {
      whole = with_sign Minus (suc q);
      floor =
          floor_at s (with_sign Minus (suc q)) (with_sign (opposite_of s) Y) X
          (with_sign (opposite_of s) (suc q * X)) (with_sign (opposite_of s) (q * X)) X_pos
          (signed-mul Minus s (suc q) X) (ap (λ z. z *ℤ with_sign s X) (one_less q) ∙ signed-mul Minus s q X)
          (between_apart s (suc q * X) Y (q * X) (omega arith) (omega arith));
      rest = nearest_of_zero _ 1 (Ok Zero) d refl;
    }

-- The remainder may be computed before a further power of ten is multiplied.
pub remainder_step : (n v s p r : ℕ) → s + r ≡ p → ((n % v) * 10 ^ s) * 10 ^ r % v ≡ n * 10 ^ p % v
remainder_step n v s p r e =
    let q : 10 ^ s * 10 ^ r ≡ 10 ^ p = power_parts s r p e in
    let m : ((n % v) * 10 ^ s) * 10 ^ r ≡ (n % v) * 10 ^ p = (let f = ap (λ t. (n % v) * t) q in omega (arith, f)) in
    ap (λ t. t % v) m ∙ mul-mod_first n (10 ^ p) v

-- The sizes of a dividend, a divisor and the remainder, if the exponent of the divisor is not higher.
sizes_divide : (n m t s r : ℕ) → 0 < m → s ≤ t → r ≡ n * 10 ^ (t - s) % m
    → (n * 10 ^ t ≡ (n * 10 ^ (t - s) / m) * (m * 10 ^ s) + r * 10 ^ s) × (r < m) × (r * 10 ^ s < m * 10 ^ s)
sizes_divide n m t s r m_pos le r_is =
    let q : 10 ^ (t - s) * 10 ^ s ≡ 10 ^ t = power_parts (t - s) s t (omega arith) in
    let a : n * (10 ^ (t - s) * 10 ^ s) ≡ n * 10 ^ t = ap (λ u. n * u) q in
    let d : n * 10 ^ (t - s) / m * m + n * 10 ^ (t - s) % m ≡ n * 10 ^ (t - s) = div-add-mod' (n * 10 ^ (t - s)) m in
    let d' : n * 10 ^ (t - s) / m * m + r ≡ n * 10 ^ (t - s) = omega arith in
    let f : (n * 10 ^ (t - s) / m * m + r) * 10 ^ s ≡ (n * 10 ^ (t - s)) * 10 ^ s = ap (λ u. u * 10 ^ s) d' in
    let b : n * 10 ^ (t - s) % m < m = mod_below (n * 10 ^ (t - s)) m m_pos in
    let less : r < m = omega arith in
    (omega arith, less, mul-lt-mul_of_pos_right less (ten_pow_pos s))

abbrev pub quotient : Magnitude → Magnitude → ℕ
quotient y x = y.mantissa.digits * 10 ^ (y.exponent.biased - x.exponent.biased) / x.mantissa.digits

pub divided : (y x : Magnitude) (r : ℕ) → x.exponent.biased ≤ y.exponent.biased
    → r ≡ y.mantissa.digits * 10 ^ (y.exponent.biased - x.exponent.biased) % x.mantissa.digits
    → (size y ≡ quotient y x * size x + r * 10 ^ x.exponent.biased) × (r < x.mantissa.digits) × (r * 10 ^ x.exponent.biased < size x)
divided y x r le r_is =
    sizes_divide y.mantissa.digits x.mantissa.digits y.exponent.biased x.exponent.biased r (omega (arith, x.mantissa.at_least)) le r_is

-- The rounded value is the remainder.
pub rest_rounds : (sign : Sign) (k place : ℕ) (answer : Result Ten DecimalFault) → 0 < k → RoundsWhole sign k (place + 128) answer
    → Nearest (with_sign sign (k * 10 ^ place)) 1 answer
rest_rounds sign k place answer k_pos rounds =
    nearest_of (with_sign sign (k * 10 ^ place)) 1 sign (k * 10 ^ place) answer refl (mul-pos k_pos (ten_pow_pos place))
    (rounds (Fraction (k * 10 ^ place) 1) (exact_fraction (k * 10 ^ place) 1 k (place + 128) (omega arith) (at_unit_scale k place)))

pub rest_rounds_at : (sign : Sign) (k place scale : ℕ) (answer : Result Ten DecimalFault) → 0 < k → scale ≡ place + 128
    → RoundsWhole sign k scale answer → Nearest (with_sign sign (k * 10 ^ place)) 1 answer
rest_rounds_at sign k place scale answer k_pos scale_is rounds =
    let P : ℕ → Type 0 = λ t. RoundsWhole sign k t answer in
    rest_rounds sign k place answer k_pos (subst P scale_is rounds)

-- The remainder of zero.
pub rest_of_zero : (s : Sign) (X : ℕ) → 0 < X → RoundsRest (pos 0) (with_sign s X) (Ok Zero)
rest_of_zero Plus X some = rest_of_same Plus 0 X 0 0 (Ok Zero) (omega arith) some refl
rest_of_zero Minus X some = rest_of_same Minus 0 X 0 0 (Ok Zero) (omega arith) some refl

pub modulo_by : (y : Ten) (t : Sign) (x : Magnitude) (z : ℤ) (answer : Result Ten DecimalFault) → units y ≡ z
    → RoundsRest z (with_sign t (size x)) answer → NearestModulo y (Nonzero t x) answer
modulo_by y t x z answer e rest =
    let a : unsigned_abs (with_sign t (size x)) ≡ size x = unsigned_abs-signed t (size x) in
    let some : 0 < unsigned_abs (with_sign t (size x)) = subst (λ n. 0 < n) (sym a) (size_pos x) in
    not_zero (answer ≡ Ok y) (RoundsRest (units y) (with_sign t (size x)) answer) (unsigned_abs (with_sign t (size x))) some
    (let P : ℤ → Type 0 = λ u. RoundsRest u (with_sign t (size x)) answer in subst P (sym e) rest)
