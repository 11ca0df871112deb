-- The whole numbers that the operations round are cuts of their exact values.
use Rattle.std.proofs.Common.{◌≡◌, ℕ, ◌+◌, ◌-◌, ◌*◌, ◌/◌, ◌%◌, ◌^◌, ◌<◌, ◌≤◌, min, ⊎_elim, sym, ◌∙◌, ap, refl, subst, arith}
use Rattle.std.proofs.Math.Nat.{mul-le-mul_right, mul-lt-mul_of_pos_right, mul-pos, pow-le-pow_right, div-mul-le_self}
use Rattle.std.proofs.Math.Nat.{lt-div-mul-add, mul-add-div, mul-add-div_right}
use Rattle.std.proofs.lemmas.Nat.{pow-add, le-div, div-add-mod'}
use Rattle.std.proofs.lemmas.Bool.{cases_lt}
use Rattle.h41_decimal.specs.NearestDecimal.{Exact, Fraction, RootOf}
use Rattle.h41_decimal.specs.private.Cut.{IsCutFarEnough}
use Rattle.h41_decimal.proofs.Nearest.{ten_pow_pos}
use Rattle.h41_decimal.proofs.Cuts.{cut_further, power_parts}

-- A fraction that is a whole number of steps.
pub exact_fraction : (n d whole scale : ℕ) → 0 < d → n * 10 ^ 128 ≡ (whole * 10 ^ scale) * d → IsCutFarEnough (Fraction n d) whole scale
exact_fraction n d whole scale d_pos e =
    let p : 0 < 10 ^ scale * d = mul-pos (ten_pow_pos scale) d_pos in
    record {
      cut = record { at_least = omega arith; below = omega arith };
      whole_size = λ _. omega arith;
    }

-- The product of two sizes.
product_steps : (m n ps pt p108 p128 pscale : ℕ) → (ps * pt) * p128 ≡ pscale * p108
    → ((m * ps) * (n * pt)) * p128 ≡ ((m * n) * pscale) * p108
product_steps m n ps pt p108 p128 pscale e =
    let a : (m * n) * ((ps * pt) * p128) ≡ (m * n) * (pscale * p108) = ap (λ t. (m * n) * t) e in
    omega arith

pub cut_product : (m n s t : ℕ) → IsCutFarEnough (Fraction ((m * 10 ^ s) * (n * 10 ^ t)) (10 ^ 108)) (m * n) (s + t + 20)
cut_product m n s t =
    let e : (10 ^ s * 10 ^ t) * 10 ^ 128 ≡ 10 ^ (s + t + 20) * 10 ^ 108 =
    ap (λ u. u * 10 ^ 128) (power_parts s t (s + t) refl)
    ∙ (power_parts (s + t) 128 (s + t + 128) refl ∙ sym (power_parts (s + t + 20) 108 (s + t + 128) (omega arith))) in
    exact_fraction ((m * 10 ^ s) * (n * 10 ^ t)) (10 ^ 108) (m * n) (s + t + 20) (ten_pow_pos 108)
    (product_steps m n (10 ^ s) (10 ^ t) (10 ^ 108) (10 ^ 128) (10 ^ (s + t + 20)) e)

-- A cut remains one if equal numbers replace its own.
pub same_cut : (v : Exact) (whole whole' scale scale' : ℕ) → whole ≡ whole' → scale ≡ scale' → IsCutFarEnough v whole' scale'
    → IsCutFarEnough v whole scale
same_cut v whole whole' scale scale' e f cut =
    let P : ℕ → Type 0 = λ w. IsCutFarEnough v w scale' in
    let Q : ℕ → Type 0 = λ s. IsCutFarEnough v whole s in
    subst Q (sym f) (subst P (sym e) cut)

-- A number of which the last digits are dropped, if eleven remain.
pub cut_shorter : (v : Exact) (whole part scale dropped : ℕ) → part ≡ whole / 10 ^ dropped → 10 ^ 10 ≤ part
    → IsCutFarEnough v whole scale → IsCutFarEnough v part (scale + dropped)
cut_shorter v whole part scale dropped part_is long far =
    let same : part * 10 ^ dropped ≡ whole / 10 ^ dropped * 10 ^ dropped = ap (λ t. t * 10 ^ dropped) part_is in
    let low : whole / 10 ^ dropped * 10 ^ dropped ≤ whole = div-mul-le_self whole (10 ^ dropped) in
    let high : whole < whole / 10 ^ dropped * 10 ^ dropped + 10 ^ dropped = lt-div-mul-add (ten_pow_pos dropped) in
    record {
      cut = cut_further v whole part scale dropped far.cut (omega arith) (omega arith);
      whole_size = λ less. absurd (omega arith);
    }

-- The product of two sizes, each in two halves.
product_of_halves : (a b c d : ℕ)
    → a * c * 100000 + (a * d + b * c) + b * d / 100000 ≡ (a * 100000 + b) * (c * 100000 + d) / 100000
product_of_halves a b c d =
    let some : 0 < 100000 = omega arith in
    let whole : (a * 100000 + b) * (c * 100000 + d) ≡ 100000 * (a * c * 100000 + (a * d + b * c)) + b * d = omega arith in
    sym (ap (λ t. t / 100000) whole ∙ mul-add-div some (a * c * 100000 + (a * d + b * c)) (b * d))

pub product_by_halves : (m n : ℕ)
    → m / 100000 * (n / 100000) * 100000 + (m / 100000 * (n % 100000) + m % 100000 * (n / 100000)) + m % 100000 * (n % 100000) / 100000
    ≡ m * n / 100000
product_by_halves m n =
    product_of_halves (m / 100000) (m % 100000) (n / 100000) (n % 100000)
    ∙ ap (λ t. t * (n / 100000 * 100000 + n % 100000) / 100000) (div-add-mod' m 100000)
    ∙ ap (λ t. m * t / 100000) (div-add-mod' n 100000)

-- A hundredth of the product.
pub cut_percent : (m n s t : ℕ) → IsCutFarEnough (Fraction ((m * 10 ^ s) * (n * 10 ^ t)) (100 * 10 ^ 108)) (m * n) (s + t + 18)
cut_percent m n s t =
    let e : (10 ^ s * 10 ^ t) * 10 ^ 128 ≡ 10 ^ (s + t + 18) * 10 ^ 110 =
    ap (λ u. u * 10 ^ 128) (power_parts s t (s + t) refl)
    ∙ (power_parts (s + t) 128 (s + t + 128) refl ∙ sym (power_parts (s + t + 18) 110 (s + t + 128) (omega arith))) in
    exact_fraction ((m * 10 ^ s) * (n * 10 ^ t)) (100 * 10 ^ 108) (m * n) (s + t + 18) (ten_pow_pos 110)
    (product_steps m n (10 ^ s) (10 ^ t) (10 ^ 110) (10 ^ 128) (10 ^ (s + t + 18)) e)

-- The quotient of two sizes, cut to a whole number.
quotient_low : (m n q ps pt pr : ℕ) → q * n ≤ m * 10 ^ 11 → pr * pt ≡ ps * 10 ^ 225
    → (q * pr) * ((n * pt) * (n * pt)) ≤ (((m * ps) * (n * pt)) * 10 ^ 108) * 10 ^ 128
quotient_low m n q ps pt pr low parts =
    let a : (q * n) * ((pr * pt) * (n * pt)) ≤ (m * 10 ^ 11) * ((pr * pt) * (n * pt)) = mul-le-mul_right ((pr * pt) * (n * pt)) low in
    let b : (m * (n * pt)) * (pr * pt) ≡ (m * (n * pt)) * (ps * 10 ^ 225) = ap (λ t. (m * (n * pt)) * t) parts in
    omega arith

quotient_high : (m n q ps pt pr : ℕ) → 0 < n → 0 < pt → 0 < pr → m * 10 ^ 11 < q * n + n → pr * pt ≡ ps * 10 ^ 225
    → (((m * ps) * (n * pt)) * 10 ^ 108) * 10 ^ 128 < ((q + 1) * pr) * ((n * pt) * (n * pt))
quotient_high m n q ps pt pr n_pos pt_pos pr_pos high parts =
    let k : 0 < (pr * pt) * (n * pt) = mul-pos (mul-pos pr_pos pt_pos) (mul-pos n_pos pt_pos) in
    let a : (m * 10 ^ 11) * ((pr * pt) * (n * pt)) < (q * n + n) * ((pr * pt) * (n * pt)) = mul-lt-mul_of_pos_right high k in
    let b : (m * (n * pt)) * (pr * pt) ≡ (m * (n * pt)) * (ps * 10 ^ 225) = ap (λ t. (m * (n * pt)) * t) parts in
    omega arith

pub cut_quotient : (m n s t q r : ℕ) → 10 ^ 9 ≤ m → 0 < n → n < 10 ^ 10 → q ≡ m * 10 ^ 11 / n → r + t ≡ s + 225
    → IsCutFarEnough (Fraction (((m * 10 ^ s) * (n * 10 ^ t)) * 10 ^ 108) ((n * 10 ^ t) * (n * 10 ^ t))) q r
cut_quotient m n s t q r m_size n_pos n_size q_is e =
    let parts : 10 ^ r * 10 ^ t ≡ 10 ^ s * 10 ^ 225 =
    power_parts r t (r + t) refl ∙ (ap (λ k. 10 ^ k) e ∙ sym (power_parts s 225 (s + 225) refl)) in
    let low : m * 10 ^ 11 / n * n ≤ m * 10 ^ 11 = div-mul-le_self (m * 10 ^ 11) n in
    let high : m * 10 ^ 11 < m * 10 ^ 11 / n * n + n = lt-div-mul-add n_pos in
    let qn : q * n ≡ m * 10 ^ 11 / n * n = ap (λ t. t * n) q_is in
    let big : 10 ^ 10 ≤ m * 10 ^ 11 / n = le-div (10 ^ 10) (m * 10 ^ 11) n n_pos (omega arith) in
    record {
      cut = record {
        at_least = quotient_low m n q (10 ^ s) (10 ^ t) (10 ^ r) (omega arith) parts;
        below = quotient_high m n q (10 ^ s) (10 ^ t) (10 ^ r) n_pos (ten_pow_pos t) (ten_pow_pos r) (omega arith) parts;
      };
      whole_size = λ less. absurd (omega arith);
    }

-- A quotient in two parts.
pub quotient_by_parts : (m n : ℕ) → 0 < n → m / n * 100 + m % n * 100 / n ≡ m * 100 / n
quotient_by_parts m n n_pos =
    let whole : m * 100 ≡ m / n * 100 * n + m % n * 100 = omega (arith, ap (λ t. t * 100) (div-add-mod' m n)) in
    sym (ap (λ t. t / n) whole ∙ mul-add-div_right n_pos (m / n * 100) (m % n * 100))

-- The square root of a size, cut to a whole number.
root_low : (m w ps pj pk : ℕ) → w * w ≤ m * pj → pj * (pk * pk) ≡ ps * 10 ^ 364
    → (w * pk) * (w * pk) ≤ ((m * ps) * 10 ^ 108) * (10 ^ 128 * 10 ^ 128)
root_low m w ps pj pk low parts =
    let a : (w * w) * (pk * pk) ≤ (m * pj) * (pk * pk) = mul-le-mul_right (pk * pk) low in
    let b : m * (pj * (pk * pk)) ≡ m * (ps * 10 ^ 364) = ap (λ t. m * t) parts in
    omega arith

root_high : (m w ps pj pk : ℕ) → 0 < pk → m * pj < (w + 1) * (w + 1) → pj * (pk * pk) ≡ ps * 10 ^ 364
    → ((m * ps) * 10 ^ 108) * (10 ^ 128 * 10 ^ 128) < ((w + 1) * pk) * ((w + 1) * pk)
root_high m w ps pj pk pk_pos high parts =
    let a : (m * pj) * (pk * pk) < ((w + 1) * (w + 1)) * (pk * pk) = mul-lt-mul_of_pos_right high (mul-pos pk_pos pk_pos) in
    let b : m * (pj * (pk * pk)) ≡ m * (ps * 10 ^ 364) = ap (λ t. m * t) parts in
    omega arith

pub cut_root : (m s j w k n : ℕ) → n ≡ m * 10 ^ j → w * w ≤ n → n < (w + 1) * (w + 1) → 10 ^ 10 ≤ w → j + (k + k) ≡ s + 364
    → IsCutFarEnough (RootOf ((m * 10 ^ s) * 10 ^ 108)) w k
cut_root m s j w k n n_is low high w_size e =
    let parts : 10 ^ j * (10 ^ k * 10 ^ k) ≡ 10 ^ s * 10 ^ 364 =
    ap (λ t. 10 ^ j * t) (power_parts k k (k + k) refl) ∙ (power_parts j (k + k) (s + 364) e ∙ sym (power_parts s 364 (s + 364) refl)) in
    record {
      cut = record {
        at_least = root_low m w (10 ^ s) (10 ^ j) (10 ^ k) (omega arith) parts;
        below = root_high m w (10 ^ s) (10 ^ j) (10 ^ k) (ten_pow_pos k) (omega arith) parts;
      };
      whole_size = λ less. absurd (omega arith);
    }

-- The sum of two sizes at one scale.
sum_steps : (m n ps pt p pk : ℕ) → p * pt ≡ ps → pk ≡ pt * 10 ^ 128 → (m * ps + n * pt) * 10 ^ 128 ≡ ((m * p + n) * pk) * 1
sum_steps m n ps pt p pk parts scale =
    let a : m * (p * pt) ≡ m * ps = ap (λ t. m * t) parts in
    let b : (m * p + n) * pk ≡ (m * p + n) * (pt * 10 ^ 128) = ap (λ t. (m * p + n) * t) scale in
    omega arith

pub cut_sum : (m n s t apart : ℕ) → apart + t ≡ s → IsCutFarEnough (Fraction (m * 10 ^ s + n * 10 ^ t) 1) (m * 10 ^ apart + n) (t + 128)
cut_sum m n s t apart e =
    exact_fraction (m * 10 ^ s + n * 10 ^ t) 1 (m * 10 ^ apart + n) (t + 128) (omega arith)
    (sum_steps m n (10 ^ s) (10 ^ t) (10 ^ apart) (10 ^ (t + 128)) (power_parts apart t s e) (pow-add 10 t 128))

-- The difference of two sizes at one scale, of either sign.
difference_steps : (m n ps pt p pk r d : ℕ) → p * pt ≡ ps → pk ≡ pt * 10 ^ 128 → d + n ≡ m * p → r + n * pt ≡ m * ps
    → r * 10 ^ 128 ≡ (d * pk) * 1
difference_steps m n ps pt p pk r d parts scale steps size =
    let a : m * (p * pt) ≡ m * ps = ap (λ t. m * t) parts in
    let b : d * pk ≡ d * (pt * 10 ^ 128) = ap (λ t. d * t) scale in
    let c : (d + n) * pt ≡ (m * p) * pt = ap (λ t. t * pt) steps in
    omega arith

difference_steps_turned : (m n ps pt p pk r d : ℕ) → p * pt ≡ ps → pk ≡ pt * 10 ^ 128 → d + m * p ≡ n → r + m * ps ≡ n * pt
    → r * 10 ^ 128 ≡ (d * pk) * 1
difference_steps_turned m n ps pt p pk r d parts scale steps size =
    let a : m * (p * pt) ≡ m * ps = ap (λ t. m * t) parts in
    let b : d * pk ≡ d * (pt * 10 ^ 128) = ap (λ t. d * t) scale in
    let c : (d + m * p) * pt ≡ n * pt = ap (λ t. t * pt) steps in
    omega arith

pub cut_difference : (m n s t apart r d : ℕ) → apart + t ≡ s → d + n ≡ m * 10 ^ apart → r + n * 10 ^ t ≡ m * 10 ^ s
    → IsCutFarEnough (Fraction r 1) d (t + 128)
cut_difference m n s t apart r d e steps size =
    exact_fraction r 1 d (t + 128) (omega arith)
    (difference_steps m n (10 ^ s) (10 ^ t) (10 ^ apart) (10 ^ (t + 128)) r d (power_parts apart t s e) (pow-add 10 t 128) steps size)

pub cut_difference_turned : (m n s t apart r d : ℕ) → apart + t ≡ s → d + m * 10 ^ apart ≡ n → r + m * 10 ^ s ≡ n * 10 ^ t
    → IsCutFarEnough (Fraction r 1) d (t + 128)
cut_difference_turned m n s t apart r d e steps size =
    exact_fraction r 1 d (t + 128) (omega arith)
    (difference_steps_turned m n (10 ^ s) (10 ^ t) (10 ^ apart) (10 ^ (t + 128))
    r d (power_parts apart t s e) (pow-add 10 t 128) steps size)

-- The digits of a size in the places that are used, up to eight after the last place of a size with a higher exponent.
pub places_counted : (n s t dropped q : ℕ) → t + 8 ≤ s → dropped ≡ min (s - t - 8) 10 → q ≡ n / 10 ^ dropped → n < 10 ^ 10
    → (q * 10 ^ s ≤ (n * 10 ^ t) * 10 ^ 8) × (((n + 1) * 10 ^ t) * 10 ^ 8 ≤ (q + 1) * 10 ^ s)
places_counted n s t dropped q apart dropped_is q_is small =
    ⊎_elim
    (λ (near : s - t - 8 < 11).
    let here : t + 8 + dropped ≡ s = omega arith in
    let h =
    counted_here n (10 ^ t * 10 ^ 8) (10 ^ dropped) (10 ^ s) q (ten_pow_pos dropped) q_is
    (ap (λ p. p * 10 ^ dropped) (power_parts t 8 (t + 8) refl) ∙ power_parts (t + 8) dropped s here) in
    (omega (arith, h), omega (arith, h)))
    (λ (far : 11 ≤ s - t - 8).
    let ten : dropped ≡ 10 = omega arith in
    let none : q ≡ 0 = q_is ∙ ap (λ d. n / 10 ^ d) ten ∙ omega arith in
    let some : 0 < 10 = omega arith in
    let below : t + 18 ≤ s = omega arith in
    let p : 10 ^ t * 10 ^ 18 ≡ 10 ^ (t + 18) = power_parts t 18 (t + 18) refl in
    let le : 10 ^ (t + 18) ≤ 10 ^ s = pow-le-pow_right some below in
    let all : (n + 1) * 10 ^ t ≤ 10 ^ 10 * 10 ^ t = mul-le-mul_right (10 ^ t) (omega arith) in
    let nothing : q * 10 ^ s ≡ 0 = ap (λ k. k * 10 ^ s) none ∙ omega arith in
    (omega arith, omega arith))
    (cases_lt (s - t - 8) 11)
  where
    counted_here : (n places p ps q : ℕ) → 0 < p → q ≡ n / p → places * p ≡ ps
        → (q * ps ≤ n * places) × ((n + 1) * places ≤ (q + 1) * ps)
    counted_here n places p ps q p_pos q_is parts =
        let same : q * p ≡ n / p * p = ap (λ k. k * p) q_is in
        let low : n / p * p ≤ n = div-mul-le_self n p in
        let high : n < n / p * p + p = lt-div-mul-add p_pos in
        let a : (q * p) * places ≤ n * places = mul-le-mul_right places (omega arith) in
        let b : (n + 1) * places ≤ (q * p + p) * places = mul-le-mul_right places (omega arith) in
        let c : q * (places * p) ≡ q * ps = ap (λ k. q * k) parts in
        (omega arith, omega arith)

pub cut_apart_sum : (m n s t q k : ℕ) → 10 ^ 9 ≤ m → q * 10 ^ s ≤ (n * 10 ^ t) * 10 ^ 8 → (n * 10 ^ t) * 10 ^ 8 < (q + 1) * 10 ^ s
    → k ≡ s + 120 → IsCutFarEnough (Fraction (m * 10 ^ s + n * 10 ^ t) 1) (m * 10 ^ 8 + q) k
cut_apart_sum m n s t q k m_size low high k_is =
    let p : 10 ^ k ≡ 10 ^ s * 10 ^ 120 = ap (λ t. 10 ^ t) k_is ∙ pow-add 10 s 120 in
    let mp : m * 10 ^ k ≡ m * (10 ^ s * 10 ^ 120) = ap (λ t. m * t) p in
    let qp : q * 10 ^ k ≡ q * (10 ^ s * 10 ^ 120) = ap (λ t. q * t) p in
    record {
      cut = record { at_least = omega arith; below = omega arith };
      whole_size = λ less. absurd (omega arith);
    }

pub cut_apart_difference : (m n s t q k r d : ℕ) → 10 ^ 10 ≤ d → q * 10 ^ s < (n * 10 ^ t) * 10 ^ 8
    → (n * 10 ^ t) * 10 ^ 8 ≤ (q + 1) * 10 ^ s → k ≡ s + 120 → d + (q + 1) ≡ m * 10 ^ 8 → r + n * 10 ^ t ≡ m * 10 ^ s
    → IsCutFarEnough (Fraction r 1) d k
cut_apart_difference m n s t q k r d long low high k_is d_is r_is =
    let p : 10 ^ k ≡ 10 ^ s * 10 ^ 120 = ap (λ t. 10 ^ t) k_is ∙ pow-add 10 s 120 in
    let dp : d * 10 ^ k ≡ d * (10 ^ s * 10 ^ 120) = ap (λ t. d * t) p in
    let ds : (d + (q + 1)) * 10 ^ s ≡ (m * 10 ^ 8) * 10 ^ s = ap (λ t. t * 10 ^ s) d_is in
    record {
      cut = record { at_least = omega arith; below = omega arith };
      whole_size = λ less. absurd (omega arith);
    }
