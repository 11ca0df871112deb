-- Operations on decimals, from those on sizes.
use Rattle.std.proofs.Common.{◌≡◌, ℕ, zero, suc, ◌+◌, ◌-◌, ◌*◌, ◌^◌, ◌<◌, ◌≤◌, sym, ◌∙◌, ap, refl, subst, arith, Result, Ok, Err}
use Rattle.std.proofs.Common.{true, false}
use Rattle.std.proofs.lemmas.Bool.Decides.{nat_tests}
use Rattle.std.specs.Prelude.{ℤ, pos, neg_ℤ, ◌+ℤ◌, ◌-ℤ◌, ◌*ℤ◌, ◌<ℤ◌, unsigned_abs, nat_le}
use Rattle.std.proofs.lemmas.Int.{ints}
use Rattle.std.proofs.Math.Nat.{mul-pos, pow-suc, pow-le-pow_right, mul-lt-mul_of_pos_right, mul-le-mul_right}
use Rattle.std.specs.Ordering.{int_cmp}
use Rattle.std.specs.Cmp.{int_cmp_is}
use Rattle.std.specs.declared.cmp.Ordering.TheVariants.{Less, Greater}
use denote.Enum.Bare.{sameb}
use Rattle.h41_decimal.specs.contracts.sign.Sign.{the_type}
use Rattle.std.proofs.Math.IntN.{zero-*ℤ}
use Rattle.std.proofs.lemmas.Nat.{pow-add}
use Rattle.h41_decimal.specs.Signs.{with_sign, opposite_of, product_of}
use Rattle.h41_decimal.specs.Units.{one, size, units}
use Rattle.h41_decimal.specs.NearestDecimal.{Exact, Fraction, RootOf, IsBounded, IsRounded, Nearest, NearestRoot}
use Rattle.h41_decimal.specs.Operations.{NearestQuotient}
use Rattle.h41_decimal.specs.declared.fault.DecimalFault.{DecimalFault}
use Rattle.h41_decimal.specs.declared.fault.DecimalFault.TheVariants.{Data}
use Rattle.h41_decimal.specs.declared.parts.Magnitude.{Magnitude}
use Rattle.h41_decimal.specs.declared.sign.Sign.{Sign}
use Rattle.h41_decimal.specs.declared.sign.Sign.TheVariants.{Plus, Minus}
use Rattle.h41_decimal.specs.declared.ten.Ten.{Ten}
use Rattle.h41_decimal.specs.declared.ten.Ten.TheVariants.{Zero, Nonzero}
use Rattle.h41_decimal.proofs.Nearest.{ten_pow_pos}
use Rattle.h41_decimal.proofs.Cuts.{rounded_at}
use Rattle.h41_decimal.proofs.Exact.{exact_fraction}
use Rattle.h41_decimal.proofs.Signed.{not_zero, nearest_of, nearest_of_zero, signed-mul}

-- A size is above zero.
pub size_pos : (x : Magnitude) → 0 < size x
size_pos x =
    let m : 10 ^ 9 ≤ x.mantissa.digits = x.mantissa.at_least in
    let d : 0 < x.mantissa.digits = omega arith in
    mul-pos d (ten_pow_pos x.exponent.biased)

pub unsigned_abs-signed : (sign : Sign) (n : ℕ) → unsigned_abs (with_sign sign n) ≡ n
unsigned_abs-signed Plus n = refl
unsigned_abs-signed Minus zero = refl
unsigned_abs-signed Minus (suc n) = refl

-- A decimal is the result for its own value.
own_bounded : (sign : Sign) (x : Magnitude) (steps : ℕ) → steps ≡ x.exponent.biased
    → IsBounded sign x.mantissa.digits (pos steps) (Ok (Nonzero sign x))
own_bounded sign x steps e =
    let low : x.exponent.biased ≤ 198 = x.exponent.in_range in
    let small : steps ≤ 198 = omega arith in
    let t : nat_le steps 198 ≡ true = grind (arith, nat_tests) in
    rw (t, e) refl

own_scale : (m s : ℕ) → (m * 10 ^ s) * 10 ^ 128 ≡ ((10 * m) * 10 ^ (s + 127)) * 1
own_scale m s =
    let p : 10 ^ (s + 127) ≡ 10 ^ s * 10 ^ 127 = pow-add 10 s 127 in
    let q : m * 10 ^ (s + 127) ≡ m * (10 ^ s * 10 ^ 127) = ap (λ t. m * t) p in
    omega arith

own_place : (m s : ℕ) → m * 10 ^ (s + 128) ≡ m * (10 * 10 ^ (s + 127))
own_place m s =
    let p : 10 ^ (s + 127) ≡ 10 ^ s * 10 ^ 127 = pow-add 10 s 127 in
    let p' : 10 ^ (s + 128) ≡ 10 ^ s * 10 ^ 128 = pow-add 10 s 128 in
    ap (λ t. m * t) (omega arith)

pub own_rounded : (sign : Sign) (x : Magnitude) → IsRounded sign (Fraction (size x) 1) (Ok (Nonzero sign x))
own_rounded sign x =
    let m = x.mantissa.digits in
    let s = x.exponent.biased in
    let m_size : 10 ^ 9 ≤ m = x.mantissa.at_least in
    let m_below : m < 10 ^ 10 = x.mantissa.below in
    rounded_at sign (Fraction (size x) 1) (10 * m) m m (s + 127) (s + 128) (Ok (Nonzero sign x))
    (exact_fraction (m * 10 ^ s) 1 (10 * m) (s + 127) (omega arith) (own_scale m s)).cut
    (omega arith) (omega arith) (omega arith) m_size record { at_least = m_size; below = m_below } (own_place m s)
    (λ less. absurd (omega arith)) (λ _. own_bounded sign x (s + 128 - 128) (omega arith))

pub own_nearest : (x : Ten) → Nearest (units x) 1 (Ok x)
own_nearest Zero = refl
own_nearest (Nonzero sign x) =
    nearest_of (units (Nonzero sign x)) 1 sign (size x) (Ok (Nonzero sign x)) refl (size_pos x) (own_rounded sign x)

-- The product, and a hundredth of it.
pub product_nearest : (s t : Sign) (x y : Magnitude) (d : ℕ) (answer : Result Ten DecimalFault)
    → IsRounded (product_of s t) (Fraction (size x * size y) d) answer → Nearest (with_sign s (size x) *ℤ with_sign t (size y)) d answer
product_nearest s t x y d answer rounded =
    nearest_of _ d (product_of s t) (size x * size y) answer (signed-mul s t (size x) (size y)) (mul-pos (size_pos x) (size_pos y)) rounded

-- The quotient if the divisor is not zero.
pub quotient_by : (z : ℤ) (t : Sign) (y : Magnitude) (answer : Result Ten DecimalFault)
    → Nearest (z *ℤ with_sign t (size y) *ℤ pos one) (size y * size y) answer → NearestQuotient z (with_sign t (size y)) answer
quotient_by z t y answer nearest =
    let e : unsigned_abs (with_sign t (size y)) ≡ size y = unsigned_abs-signed t (size y) in
    let some : 0 < unsigned_abs (with_sign t (size y)) = subst (λ n. 0 < n) (sym e) (size_pos y) in
    not_zero (answer ≡ Err Data) _ (unsigned_abs (with_sign t (size y))) some
    (subst (λ n. Nearest (z *ℤ with_sign t (size y) *ℤ pos one) (n * n) answer) (sym e) nearest)

pub product_with_plus : (s : Sign) → product_of s Plus ≡ s
product_with_plus Plus = refl
product_with_plus Minus = refl

pub quotient_nearest : (s t : Sign) (x y : Magnitude) (answer : Result Ten DecimalFault)
    → IsRounded (product_of s t) (Fraction (size x * size y * one) (size y * size y)) answer
    → NearestQuotient (with_sign s (size x)) (with_sign t (size y)) answer
quotient_nearest s t x y answer rounded =
    let e : with_sign s (size x) *ℤ with_sign t (size y) *ℤ pos one ≡ with_sign (product_of s t) (size x * size y * one) =
    ap (λ z. z *ℤ pos one) (signed-mul s t (size x) (size y))
    ∙ (signed-mul (product_of s t) Plus (size x * size y) one
    ∙ ap (λ u. with_sign u (size x * size y * one)) (product_with_plus (product_of s t))) in
    quotient_by (with_sign s (size x)) t y answer
    (nearest_of _ (size y * size y) (product_of s t) (size x * size y * one) answer
    e (mul-pos (mul-pos (size_pos x) (size_pos y)) (ten_pow_pos 108)) rounded)

pub quotient_of_zero : (t : Sign) (y : Magnitude) → NearestQuotient (pos 0) (with_sign t (size y)) (Ok Zero)
quotient_of_zero t y =
    quotient_by (pos 0) t y (Ok Zero)
    (nearest_of_zero _ (size y * size y) (Ok Zero) (ap (λ z. z *ℤ pos one) (zero-*ℤ (with_sign t (size y))) ∙ zero-*ℤ (pos one)) refl)

-- The square root of a positive number, and of a negative one.
pub root_nearest : (x : Magnitude) (answer : Result Ten DecimalFault) → IsRounded Plus (RootOf (size x * one)) answer
    → NearestRoot (with_sign Plus (size x)) answer
root_nearest x answer rounded = not_zero (answer ≡ Ok Zero) _ (size x) (size_pos x) rounded

pub root_of_negative : (x : Magnitude) → NearestRoot (with_sign Minus (size x)) (Err Data)
root_of_negative x = go (size x) (size_pos x)
  where
    go : (n : ℕ) → 0 < n → NearestRoot (with_sign Minus n) (Err Data)
    go zero n_pos = absurd (omega arith)
    go (suc n) n_pos = refl

-- A nearest decimal remains one if equal numbers replace its own.
pub nearest_along : (z z' : ℤ) (d : ℕ) (answer : Result Ten DecimalFault) → z ≡ z' → Nearest z' d answer → Nearest z d answer
nearest_along z z' d answer e nearest = let P : ℤ → Type 0 = λ t. Nearest t d answer in subst P (sym e) nearest

pub rounded_along : (s s' : Sign) (v : Exact) (answer : Result Ten DecimalFault) → s ≡ s' → IsRounded s v answer → IsRounded s' v answer
rounded_along s s' v answer e rounded = let P : Sign → Type 0 = λ t. IsRounded t v answer in subst P e rounded

-- Sums with zero, in either order.
pub zero_plus : (z : ℤ) → pos 0 +ℤ z ≡ z
zero_plus z = omega (arith, ints)

pub plus_zero : (z : ℤ) → z +ℤ pos 0 ≡ z
plus_zero z = omega (arith, ints)

pub minus_same_sign : (s : Sign) (a b : ℕ) → with_sign s a +ℤ with_sign (opposite_of s) b ≡ with_sign s a -ℤ with_sign s b
minus_same_sign Plus a b = omega (arith, ints)
minus_same_sign Minus a b = omega (arith, ints)

-- Two signs that are not the same.
pub signs_apart : (s t : Sign) → false ≡ sameb the_type s t → t ≡ opposite_of s
signs_apart Plus Plus h = cc
signs_apart Plus Minus h = refl
signs_apart Minus Plus h = refl
signs_apart Minus Minus h = cc

pub signs_same : (s t : Sign) → true ≡ sameb the_type s t → s ≡ t
signs_same Plus Plus h = refl
signs_same Plus Minus h = cc
signs_same Minus Plus h = cc
signs_same Minus Minus h = refl

-- The order of sizes.
pub lower_exponent : (m n s t : ℕ) → m < 10 ^ 10 → 10 ^ 9 ≤ n → s < t → m * 10 ^ s < n * 10 ^ t
lower_exponent m n s t m_size n_size less =
    let ten : 0 < 10 = omega arith in
    let p : 10 ^ suc s ≡ 10 ^ s * 10 = pow-suc 10 s in
    let q : 10 ^ suc s ≤ 10 ^ t = pow-le-pow_right ten (omega arith) in
    let a : m * 10 ^ s < 10 ^ 10 * 10 ^ s = mul-lt-mul_of_pos_right m_size (ten_pow_pos s) in
    let b : 10 ^ 9 * 10 ^ t ≤ n * 10 ^ t = mul-le-mul_right (10 ^ t) n_size in
    omega arith

pub order_less : (a b : ℕ) → a < b → Less ≡ int_cmp (pos a) (pos b)
order_less a b h = int_cmp_is (pos a) (pos b) Less (let g : pos a <ℤ pos b = omega (arith, ints) in g)

pub order_greater : (a b : ℕ) → b < a → Greater ≡ int_cmp (pos a) (pos b)
order_greater a b h = int_cmp_is (pos a) (pos b) Greater (let g : pos b <ℤ pos a = omega (arith, ints) in g)

pub order_apart : (y z : ℤ) → y <ℤ z → (Less ≡ int_cmp y z) × (Greater ≡ int_cmp z y)
order_apart y z h = (int_cmp_is y z Less h, int_cmp_is z y Greater h)

pub minus_below_plus : (a b : ℕ) → 0 < a → neg_ℤ (pos a) <ℤ pos b
minus_below_plus zero b h = absurd (omega arith)
minus_below_plus (suc a) b h = omega (arith, ints)

pub same_exponent : (m n s t : ℕ) → s ≡ t → m < n → m * 10 ^ s < n * 10 ^ t
same_exponent m n s t e less = let P : ℕ → Type 0 = λ k. m * 10 ^ s < n * 10 ^ k in subst P e (mul-lt-mul_of_pos_right less (ten_pow_pos s))
