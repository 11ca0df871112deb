-- From a cut to the rounded result.
use Rattle.std.proofs.Common.{◌≡◌, ℕ, zero, suc, ◌+◌, ◌-◌, ◌*◌, ◌/◌, ◌^◌, ◌<◌, ◌≤◌, ⊎_elim, sym, ◌∙◌, ap, subst, arith, Result, Ok}
use Rattle.std.specs.Prelude.{pos, negsuc}
use Rattle.std.proofs.Math.Nat.{mul-le-mul_left, mul-le-mul_right, mul-lt-mul_of_pos_right, mul-le-mul, pow-suc, div-mul-le_self}
use Rattle.std.proofs.Math.Nat.{lt-div-mul-add}
use Rattle.std.proofs.lemmas.Nat.{pow-add, le-div, div_below}
use Rattle.std.proofs.lemmas.Bool.{cases_lt}
use Rattle.h41_decimal.specs.NearestDecimal.{Exact, Fraction, RootOf, IsBelow, IsAtLeast, IsTenDigits, IsBounded, IsRounded}
use Rattle.h41_decimal.specs.private.Cut.{IsAtMost, IsCut, IsCutFarEnough, origin}
use Rattle.h41_decimal.specs.declared.fault.DecimalFault.{DecimalFault}
use Rattle.h41_decimal.specs.declared.sign.Sign.{Sign}
use Rattle.h41_decimal.specs.declared.ten.Ten.{Ten}
use Rattle.h41_decimal.specs.declared.ten.Ten.TheVariants.{Zero}
use Rattle.h41_decimal.proofs.Nearest.{near_at, ten_pow_pos, below_more, at_least_less}

-- A power of ten in two parts.
pub power_parts : (i j k : ℕ) → i + j ≡ k → 10 ^ i * 10 ^ j ≡ 10 ^ k
power_parts i j k e = sym (pow-add 10 i j) ∙ ap (λ t. 10 ^ t) e

low_link : (n m ps pd p128 w : ℕ) → ps * pd ≡ p128 → n * ps ≡ m * (10 * w) → (n * 1) * p128 ≡ (m * (10 * w)) * pd
low_link n m ps pd p128 w parts link =
    let a : n * (ps * pd) ≡ n * p128 = ap (λ t. n * t) parts in
    let b : (n * ps) * pd ≡ (m * (10 * w)) * pd = ap (λ t. t * pd) link in
    omega arith

high_link : (n m ps pu p128 w : ℕ) → pu * p128 ≡ ps → n * ps ≡ m * (10 * w) → (n * pu) * p128 ≡ (m * (10 * w)) * 1
high_link n m ps pu p128 w parts link =
    let a : n * (pu * p128) ≡ n * ps = ap (λ t. n * t) parts in
    omega arith

-- The result for a size that was cut to eleven digits: n, ten digits whose last is at a place, has the same value as the rounded m.
pub rounded_at : (sign : Sign) (v : Exact) (T m n scale place : ℕ) (answer : Result Ten DecimalFault) → IsCut v T scale
    → 10 ^ 10 ≤ T → 10 * m ≤ T + 5 → T + 5 < 10 * m + 10 → 10 ^ 9 ≤ m → IsTenDigits n
    → n * 10 ^ place ≡ m * (10 * 10 ^ scale)
    → (place < 128 → answer ≡ Ok Zero) → (128 ≤ place → IsBounded sign n (pos (place - 128)) answer)
    → IsRounded sign v answer
rounded_at sign v T m n scale place answer cut T_size low high m_size ten link zero_below bounded =
    ⊎_elim
    (λ (below : place < 128). record {
      digits = n;
      exponent = negsuc (127 - place);
      ten_digits = ten;
      near = near_at v T m n scale 0 (127 - place + 1) 128 cut.at_least cut.below T_size low high m_size
          (low_link n m (10 ^ place) (10 ^ (127 - place + 1)) (10 ^ 128) (10 ^ scale)
          (power_parts place (127 - place + 1) 128 (omega arith)) link);
      bounded = zero_below below;
    })
    (λ (above : 128 ≤ place). record {
      digits = n;
      exponent = pos (place - 128);
      ten_digits = ten;
      near = near_at v T m n scale (place - 128) 0 128 cut.at_least cut.below T_size low high m_size
          (high_link n m (10 ^ place) (10 ^ (place - 128)) (10 ^ 128) (10 ^ scale)
          (power_parts (place - 128) 128 place (omega arith)) link);
      bounded = bounded above;
    })
    (cases_lt place 128)

-- A number cut further: its last places are dropped.
pub cut_further : (v : Exact) (whole part scale dropped : ℕ) → IsCut v whole scale
    → part * 10 ^ dropped ≤ whole → whole < (part + 1) * 10 ^ dropped → IsCut v part (scale + dropped)
cut_further v whole part scale dropped cut low high =
    let p : 10 ^ (scale + dropped) ≡ 10 ^ scale * 10 ^ dropped = pow-add 10 scale dropped in
    let a : (part * 10 ^ dropped) * 10 ^ scale ≤ whole * 10 ^ scale = mul-le-mul_right (10 ^ scale) low in
    let b : (whole + 1) * 10 ^ scale ≤ ((part + 1) * 10 ^ dropped) * 10 ^ scale = mul-le-mul_right (10 ^ scale) (omega arith) in
    let pp : part * 10 ^ (scale + dropped) ≡ part * (10 ^ scale * 10 ^ dropped) = ap (λ t. part * t) p in
    let le : part * 10 ^ (scale + dropped) ≤ whole * 10 ^ scale = omega arith in
    let ge : (whole + 1) * 10 ^ scale ≤ (part + 1) * 10 ^ (scale + dropped) = omega arith in
    let o : 0 < origin = ten_pow_pos 128 in
    record {
      at_least =
          at_least_less v (whole * 10 ^ scale) origin (part * 10 ^ (scale + dropped)) origin o o (mul-le-mul_right origin le) cut.at_least;
      below =
          below_more v ((whole + 1) * 10 ^ scale) origin ((part + 1) * 10 ^ (scale + dropped))
          origin o o (mul-le-mul_right origin ge) cut.below;
    }

-- If something is at most a bound, it is less than a greater bound.
pub below_of_at_most : (v : Exact) (p p' b q : ℕ) → p < p' → IsBelow v b q → IsAtMost v p q → IsBelow v p' q
below_of_at_most (Fraction n zero) p p' b q less any at_most = absurd (omega arith)
below_of_at_most (Fraction n (suc d)) p p' b q less any at_most =
    let a : p * suc d < p' * suc d = mul-lt-mul_of_pos_right less (omega arith) in
    omega arith
below_of_at_most (RootOf n) p p' b q less any at_most =
    let a : p * p ≤ p * p' = mul-le-mul_left p (omega arith) in
    let b : p * p' < p' * p' = mul-lt-mul_of_pos_right less (omega arith) in
    omega arith

-- A number from which nothing was cut off is followed by zeros.
pub cut_exactly : (v : Exact) (whole scale missing place : ℕ) → place + missing ≡ scale → IsCut v whole scale
    → IsAtMost v (whole * 10 ^ scale) origin → IsCut v (whole * 10 ^ missing) place
cut_exactly v whole scale missing place places cut at_most =
    let p : 10 ^ scale ≡ 10 ^ place * 10 ^ missing = sym (power_parts place missing scale places) in
    let e : whole * 10 ^ scale ≡ (whole * 10 ^ missing) * 10 ^ place = ap (λ t. whole * t) p ∙ omega arith in
    let pos : 0 < 10 ^ place = ten_pow_pos place in
    let L : ℕ → Type 0 = λ t. IsAtLeast v t origin in
    record {
      at_least = subst L e cut.at_least;
      below = below_of_at_most v (whole * 10 ^ scale) ((whole * 10 ^ missing + 1) * 10 ^ place) ((whole + 1) * 10 ^ scale) origin
          (omega arith) cut.below at_most;
    }

-- A number of more than eleven digits, cut to eleven by dividing by the power of ten p.
pub eleven_of_more : (whole count dropped p : ℕ) → p ≡ 10 ^ dropped → 11 + dropped ≡ count → 10 ^ count ≤ 10 * whole → whole < 10 ^ count
    → (0 < p) × (10 ^ 10 ≤ whole / p) × (whole / p < 10 ^ 11)
eleven_of_more whole count dropped p is e least next =
    let parts : 10 ^ 11 * 10 ^ dropped ≡ 10 ^ count = power_parts 11 dropped count e in
    let some : 0 < 10 ^ dropped = ten_pow_pos dropped in
    let p_pos : 0 < p = omega arith in
    (p_pos, le-div (10 ^ 10) whole p p_pos (omega arith), div_below whole p (10 ^ 11) p_pos (omega arith))

-- A number of fewer than eleven digits, filled to eleven by multiplying by the power of ten p.
pub eleven_of_fewer : (whole count missing p : ℕ) → p ≡ 10 ^ missing → count + missing ≡ 11 → 10 ^ count ≤ 10 * whole → whole < 10 ^ count
    → (10 ^ 10 ≤ whole * p) × (whole * p < 10 ^ 11)
eleven_of_fewer whole count missing p is e least next =
    let parts : 10 ^ count * 10 ^ missing ≡ 10 ^ 11 = power_parts count missing 11 e in
    let same : 10 ^ count * p ≡ 10 ^ count * 10 ^ missing = ap (λ t. 10 ^ count * t) is in
    let some : 0 < 10 ^ missing = ten_pow_pos missing in
    let p_pos : 0 < p = omega arith in
    let a : 10 ^ count * p ≤ (10 * whole) * p = mul-le-mul_right p least in
    let b : whole * p < 10 ^ count * p = mul-lt-mul_of_pos_right next p_pos in
    (omega arith, omega arith)

-- A number of more digits, cut to eleven.
pub cut_to_eleven : (v : Exact) (whole scale dropped p : ℕ) → 0 < p → p ≡ 10 ^ dropped → IsCut v whole scale
    → IsCut v (whole / p) (scale + dropped)
cut_to_eleven v whole scale dropped p p_pos is cut =
    let low : whole / p * p ≤ whole = div-mul-le_self whole p in
    let high : whole < whole / p * p + p = lt-div-mul-add p_pos in
    let same : whole / p * p ≡ whole / p * 10 ^ dropped = ap (λ t. whole / p * t) is in
    cut_further v whole (whole / p) scale dropped cut (omega arith) (omega arith)

-- A number of at most eleven digits, from which nothing was cut off.
pub fill_to_eleven : (v : Exact) (whole scale missing place p : ℕ) → p ≡ 10 ^ missing → place + missing ≡ scale → whole * p < 10 ^ 11
    → IsCutFarEnough v whole scale → IsCut v (whole * p) place
fill_to_eleven v whole scale missing place p is places fits far =
    ⊎_elim
    (λ (fewer : whole < 10 ^ 10).
    let C : ℕ → Type 0 = λ t. IsCut v (whole * t) place in
    subst C (sym is) (cut_exactly v whole scale missing place places far.cut (far.whole_size fewer)))
    (λ (enough : 10 ^ 10 ≤ whole). stays v whole scale missing place p is places fits enough far.cut)
    (cases_lt whole (10 ^ 10))
  where
    stays : (v : Exact) (whole scale missing place p : ℕ) → p ≡ 10 ^ missing → place + missing ≡ scale → whole * p < 10 ^ 11
        → 10 ^ 10 ≤ whole → IsCut v whole scale → IsCut v (whole * p) place
    stays v whole scale zero place p is places fits enough cut =
        let C : ℕ → Type 0 = λ t. IsCut v t place in
        let D : ℕ → Type 0 = λ t. IsCut v whole t in
        let one : p ≡ 1 = is in
        let e : whole ≡ whole * p = omega (arith, ap (λ t. whole * t) one) in
        subst C e (subst D (omega arith) cut)
    stays v whole scale (suc missing) place p is places fits enough cut =
        let q : 10 ^ suc missing ≡ 10 ^ missing * 10 = pow-suc 10 missing in
        let some : 0 < 10 ^ missing = ten_pow_pos missing in
        let ten : 10 ≤ p = omega arith in
        let big : 10 ^ 10 * 10 ≤ whole * p = mul-le-mul enough ten in
        absurd (omega arith)
