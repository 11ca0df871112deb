-- The difference of two sizes is nearest to what was rounded.
use Rattle.std.proofs.Common.{◌≡◌, ℕ, ◌+◌, ◌-◌, ◌*◌, ◌^◌, ◌<◌, ◌≤◌, ap, refl, arith, Result, Ok}
use Rattle.std.specs.Prelude.{◌-ℤ◌}
use Rattle.std.proofs.Math.Nat.{mul-lt-mul_of_pos_right}
use Rattle.h41_decimal.specs.Signs.{with_sign, opposite_of}
use Rattle.h41_decimal.specs.NearestDecimal.{Fraction, Nearest}
use Rattle.h41_decimal.specs.private.Cut.{RoundsWhole}
use Rattle.h41_decimal.specs.declared.fault.DecimalFault.{DecimalFault}
use Rattle.h41_decimal.specs.declared.sign.Sign.{Sign}
use Rattle.h41_decimal.specs.declared.ten.Ten.{Ten}
use Rattle.h41_decimal.specs.declared.ten.Ten.TheVariants.{Zero}
use Rattle.h41_decimal.proofs.Nearest.{ten_pow_pos}
use Rattle.h41_decimal.proofs.Cuts.{power_parts}
use Rattle.h41_decimal.proofs.Exact.{cut_difference, cut_difference_turned, cut_apart_difference, same_cut}
use Rattle.h41_decimal.proofs.Signed.{nearest_of, nearest_of_zero, signed-sub, signed-sub_turned, signed-sub_same}

-- The size x at the scale of y.
at_scale : (m s t apart : ℕ) → apart + t ≡ s → (m * 10 ^ apart) * 10 ^ t ≡ m * 10 ^ s
at_scale m s t apart e = let p = ap (λ u. m * u) (power_parts apart t s e) in omega (arith, p)

pub difference_above : (sign : Sign) (answer : Result Ten DecimalFault) (m n s t apart large small k : ℕ) → apart + t ≡ s
    → large ≡ m * 10 ^ apart → small ≡ n → k ≡ t + 128 → small < large → RoundsWhole sign (large - small) k answer
    → Nearest (with_sign sign (m * 10 ^ s) -ℤ with_sign sign (n * 10 ^ t)) 1 answer
difference_above sign answer m n s t apart large small k e large_is small_is k_is less rounds =
    let x : (m * 10 ^ apart) * 10 ^ t ≡ m * 10 ^ s = at_scale m s t apart e in
    let less' : n < m * 10 ^ apart = omega arith in
    let h : n * 10 ^ t < (m * 10 ^ apart) * 10 ^ t = mul-lt-mul_of_pos_right less' (ten_pow_pos t) in
    nearest_of _ 1 sign (m * 10 ^ s - n * 10 ^ t) answer
    (signed-sub sign (m * 10 ^ s) (n * 10 ^ t) (m * 10 ^ s - n * 10 ^ t) (omega arith)) (omega arith)
    (rounds (Fraction (m * 10 ^ s - n * 10 ^ t) 1)
    (same_cut (Fraction (m * 10 ^ s - n * 10 ^ t) 1) (large - small) (large - small) k (t + 128) refl k_is
    (cut_difference m n s t apart (m * 10 ^ s - n * 10 ^ t) (large - small) e (omega arith) (omega arith))))

pub difference_below : (sign : Sign) (answer : Result Ten DecimalFault) (m n s t apart large small k : ℕ) → apart + t ≡ s
    → large ≡ m * 10 ^ apart → small ≡ n → k ≡ t + 128 → large < small → RoundsWhole (opposite_of sign) (small - large) k answer
    → Nearest (with_sign sign (m * 10 ^ s) -ℤ with_sign sign (n * 10 ^ t)) 1 answer
difference_below sign answer m n s t apart large small k e large_is small_is k_is less rounds =
    let x : (m * 10 ^ apart) * 10 ^ t ≡ m * 10 ^ s = at_scale m s t apart e in
    let less' : m * 10 ^ apart < n = omega arith in
    let h : (m * 10 ^ apart) * 10 ^ t < n * 10 ^ t = mul-lt-mul_of_pos_right less' (ten_pow_pos t) in
    nearest_of _ 1 (opposite_of sign) (n * 10 ^ t - m * 10 ^ s) answer
    (signed-sub_turned sign (m * 10 ^ s) (n * 10 ^ t) (n * 10 ^ t - m * 10 ^ s) (omega arith)) (omega arith)
    (rounds (Fraction (n * 10 ^ t - m * 10 ^ s) 1)
    (same_cut (Fraction (n * 10 ^ t - m * 10 ^ s) 1) (small - large) (small - large) k (t + 128) refl k_is
    (cut_difference_turned m n s t apart (n * 10 ^ t - m * 10 ^ s) (small - large) e (omega arith) (omega arith))))

pub difference_none : (sign : Sign) (answer : Result Ten DecimalFault) (m n s t apart large small : ℕ) → apart + t ≡ s
    → large ≡ m * 10 ^ apart → small ≡ n → large ≡ small → answer ≡ Ok Zero
    → Nearest (with_sign sign (m * 10 ^ s) -ℤ with_sign sign (n * 10 ^ t)) 1 answer
difference_none sign answer m n s t apart large small e large_is small_is same zero_is =
    let x : (m * 10 ^ apart) * 10 ^ t ≡ m * 10 ^ s = at_scale m s t apart e in
    let same' : m * 10 ^ apart ≡ n = omega arith in
    let h : (m * 10 ^ apart) * 10 ^ t ≡ n * 10 ^ t = ap (λ u. u * 10 ^ t) same' in
    nearest_of_zero _ 1 answer (signed-sub_same sign (m * 10 ^ s) (n * 10 ^ t) (omega arith)) zero_is

pub difference_apart : (sign : Sign) (answer : Result Ten DecimalFault) (m n s t q whole k : ℕ) → 10 ^ 10 ≤ whole
    → q * 10 ^ s < (n * 10 ^ t) * 10 ^ 8 → (n * 10 ^ t) * 10 ^ 8 ≤ (q + 1) * 10 ^ s → k ≡ s + 120 → whole + (q + 1) ≡ m * 10 ^ 8
    → RoundsWhole sign whole k answer → Nearest (with_sign sign (m * 10 ^ s) -ℤ with_sign sign (n * 10 ^ t)) 1 answer
difference_apart sign answer m n s t q whole k long low high k_is whole_is rounds =
    let less : (q + 1) * 10 ^ s < (m * 10 ^ 8) * 10 ^ s = mul-lt-mul_of_pos_right (omega arith) (ten_pow_pos s) in
    nearest_of _ 1 sign (m * 10 ^ s - n * 10 ^ t) answer
    (signed-sub sign (m * 10 ^ s) (n * 10 ^ t) (m * 10 ^ s - n * 10 ^ t) (omega arith)) (omega arith)
    (rounds (Fraction (m * 10 ^ s - n * 10 ^ t) 1)
    (cut_apart_difference m n s t q k (m * 10 ^ s - n * 10 ^ t) whole long low high k_is whole_is (omega arith)))
