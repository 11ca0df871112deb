-- Why a size that was cut to eleven digits and rounded there is nearest to what was cut.
use Rattle.std.proofs.Common.{◌≡◌, ℕ, zero, suc, ◌+◌, ◌*◌, ◌^◌, ◌<◌, ◌≤◌, ◌⊎◌, inl, inr, sym, ◌∙◌, ap, refl, subst, arith}
use Rattle.std.proofs.Math.Nat.{mul-le-mul_right, mul-lt-mul_of_pos_right, mul-pos, le_of_mul-le-mul_right, lt_of_mul-lt-mul_left}
use Rattle.std.proofs.Math.Nat.{lt_of_mul-lt-mul_right, mul-le-mul, pow-suc, one-le-pow, mul_comm}
use Rattle.std.proofs.lemmas.Nat.{pow-add}
use Rattle.h41_decimal.specs.NearestDecimal.{Exact, Fraction, RootOf, IsBelow, IsAtLeast, IsNear}

-- If a bound is greater than a size, so is a greater bound.
pub below_more : (v : Exact) (p q p' q' : ℕ) → 0 < q → 0 < q' → p * q' ≤ p' * q → IsBelow v p q → IsBelow v p' q'
below_more (Fraction n d) p q p' q' q_pos q'_pos le h =
    let a : (n * q) * q' < (p * d) * q' = mul-lt-mul_of_pos_right h q'_pos in
    let b : (p * q') * d ≤ (p' * q) * d = mul-le-mul_right d le in
    let c : (n * q') * q < (p' * d) * q = omega arith in
    lt_of_mul-lt-mul_right q c
below_more (RootOf n) p q p' q' q_pos q'_pos le h =
    let a : (n * (q * q)) * (q' * q') < (p * p) * (q' * q') = mul-lt-mul_of_pos_right h (mul-pos q'_pos q'_pos) in
    let b : (p * q') * (p * q') ≤ (p' * q) * (p' * q) = mul-le-mul le le in
    let c : (n * (q' * q')) * (q * q) < (p' * p') * (q * q) = omega arith in
    lt_of_mul-lt-mul_right (q * q) c

-- If a size reaches a bound, it reaches a smaller bound.
pub at_least_less : (v : Exact) (p q p' q' : ℕ) → 0 < q → 0 < q' → p' * q ≤ p * q' → IsAtLeast v p q → IsAtLeast v p' q'
at_least_less (Fraction n d) p q p' q' q_pos q'_pos le h =
    let a : (p * d) * q' ≤ (n * q) * q' = mul-le-mul_right q' h in
    let b : (p' * q) * d ≤ (p * q') * d = mul-le-mul_right d le in
    let c : (p' * d) * q ≤ (n * q') * q = omega arith in
    le_of_mul-le-mul_right c q_pos
at_least_less (RootOf n) p q p' q' q_pos q'_pos le h =
    let a : (p * p) * (q' * q') ≤ (n * (q * q)) * (q' * q') = mul-le-mul_right (q' * q') h in
    let b : (p' * q) * (p' * q) ≤ (p * q') * (p * q') = mul-le-mul le le in
    let c : (p' * p') * (q * q) ≤ (n * (q' * q')) * (q * q) = omega arith in
    le_of_mul-le-mul_right c (mul-pos q_pos q_pos)

-- Of two powers of ten one is a multiple of the other.
pub record IsMultiple (large small : ℕ) : Type 0 where
  pub factor : ℕ
  pub positive : 0 < factor
  pub product : large ≡ small * factor

pub ten_pow_pos : (k : ℕ) → 0 < 10 ^ k
ten_pow_pos k = one-le-pow k 10 (omega arith)

next_product : (Y X Y' X' f : ℕ) → Y' ≡ Y * 10 → X' ≡ X * 10 → Y ≡ X * f → Y' ≡ X' * f
next_product Y X Y' X' f ey ex e = ey ∙ (ap (λ t. t * 10) e ∙ (omega arith ∙ sym (ap (λ t. t * f) ex)))

pub powers_apart : (i j : ℕ) → IsMultiple (10 ^ j) (10 ^ i) ⊎ IsMultiple (10 ^ i) (10 * 10 ^ j)
powers_apart zero j = inl record { factor = 10 ^ j; positive = ten_pow_pos j; product = omega arith }
powers_apart (suc i) zero = inr record { factor = 10 ^ i; positive = ten_pow_pos i; product = omega (arith, pow-suc 10 i) }
powers_apart (suc i) (suc j) =
    elim (powers_apart i j) [
      | inl m ↦ inl record {
        factor = m.factor;
        positive = m.positive;
        product =
            next_product (10 ^ j) (10 ^ i) (10 ^ suc j) (10 ^ suc i) m.factor (pow-suc 10 j) (pow-suc 10 i) m.product;
      }
      | inr m ↦ inr record {
        factor = m.factor;
        positive = m.positive;
        product =
            next_product (10 ^ i) (10 * 10 ^ j) (10 ^ suc i) (10 * 10 ^ suc j)
            m.factor (pow-suc 10 i) (omega (arith, pow-suc 10 j)) m.product;
      }
    ]

-- A size within ten digits of a bigger power of ten is not above a size of ten digits.
pub above_next : (m k X Y : ℕ) → 10 ^ 9 ≤ m → k < 10 ^ 10 → IsMultiple Y X ⊎ IsMultiple X (10 * Y) → m * X < k * Y → m * X + X ≤ k * Y
above_next m k X Y m_size k_size (inl y) less =
    let e : k * Y ≡ X * (k * y.factor) = ap (λ t. k * t) y.product ∙ omega arith in
    let l : X * m < X * (k * y.factor) = omega arith in
    let s : m < k * y.factor = lt_of_mul-lt-mul_left X l in
    let t : (m + 1) * X ≤ (k * y.factor) * X = mul-le-mul_right X (omega arith) in
    omega arith
above_next m k X Y m_size k_size (inr x) less =
    let a : k * Y ≤ 10 ^ 10 * Y = mul-le-mul_right Y (omega arith) in
    let b : 10 ^ 9 * X ≤ m * X = mul-le-mul_right X m_size in
    let c : 1 * (10 * Y) ≤ x.factor * (10 * Y) = mul-le-mul_right (10 * Y) x.positive in
    let d : X ≡ (10 * Y) * x.factor = x.product in
    absurd (omega arith)

-- The middle between the rounded size and a larger decimal is above the size that was cut.
pub half_way_above : (T m X Y k u c : ℕ) → T + 5 < 10 * m + 10 → m * X + X ≤ k * Y → X ≡ 10 * u
    → ((T + 1) * u) * (2 * c) ≤ (m * X + k * Y) * c
half_way_above T m X Y k u c rounded next e =
    let a : (T + 1) * (u * (2 * c)) ≤ (10 * m + 5) * (u * (2 * c)) = mul-le-mul_right (u * (2 * c)) (omega arith) in
    let b : (m * X + X) * c ≤ (k * Y) * c = mul-le-mul_right c next in
    let x : X * c ≡ (10 * u) * c = ap (λ t. t * c) e in
    let mx : m * (X * c) ≡ m * ((10 * u) * c) = ap (λ t. m * t) x in
    omega arith

-- The middle between the rounded size and a smaller decimal is not above it.
pub half_way_below : (T m X Y k u c : ℕ) → 10 ^ 10 ≤ T → 10 * m ≤ T + 5 → 10 ^ 9 ≤ m → k < 10 ^ 10 → X ≡ 10 * u
    → IsMultiple Y X ⊎ IsMultiple X (10 * Y) → k * Y < m * X
    → (m * X + k * Y) * c ≤ (T * u) * (2 * c)
half_way_below T m X Y k u c T_size rounded m_size k_size e (inl y) less =
    let f : k * Y ≡ X * (k * y.factor) = ap (λ t. k * t) y.product ∙ omega arith in
    let l : X * (k * y.factor) < X * m = omega arith in
    let s : k * y.factor < m = lt_of_mul-lt-mul_left X l in
    let t : (k * y.factor + 1) * (X * c) ≤ m * (X * c) = mul-le-mul_right (X * c) (omega arith) in
    let a : (10 * m) * (u * (2 * c)) ≤ (T + 5) * (u * (2 * c)) = mul-le-mul_right (u * (2 * c)) rounded in
    let fc : (k * Y) * c ≡ (X * (k * y.factor)) * c = ap (λ t. t * c) f in
    let x : X * c ≡ (10 * u) * c = ap (λ t. t * c) e in
    let mx : m * (X * c) ≡ m * ((10 * u) * c) = ap (λ t. m * t) x in
    omega arith
half_way_below T m X Y k u c T_size rounded m_size k_size e (inr x) less =
    let a : k * Y ≤ 10 ^ 10 * Y = mul-le-mul_right Y (omega arith) in
    let b : 1 * (10 * Y) ≤ x.factor * (10 * Y) = mul-le-mul_right (10 * Y) x.positive in
    let d : X ≡ (10 * Y) * x.factor = x.product in
    let f : k * Y ≤ 10 ^ 9 * X = omega arith in
    let fc : (k * Y) * c ≤ (10 ^ 9 * X) * c = mul-le-mul_right c f in
    let g : (10 * m + 10 ^ 10) * (u * c) ≤ (2 * T) * (u * c) = mul-le-mul_right (u * c) (omega arith) in
    let xe : X * c ≡ (10 * u) * c = ap (λ t. t * c) e in
    let mx : m * (X * c) ≡ m * ((10 * u) * c) = ap (λ t. m * t) xe in
    omega arith

-- The size of the result, with the common denominator: n * pu / c is m steps of the last place, 10 * ps / q.
answered_steps : (n m pu pb ps c q : ℕ) → (n * pu) * q ≡ (m * (10 * ps)) * c → (n * (pu * pb)) * q ≡ (m * (10 * (ps * pb))) * c
answered_steps n m pu pb ps c q link =
    let e : ((n * pu) * q) * pb ≡ ((m * (10 * ps)) * c) * pb = ap (λ t. t * pb) link in
    omega arith

pub larger_from : (v : Exact) (T m n k pu pb pa c ps q : ℕ) → 0 < c → 0 < pb → 0 < q → T + 5 < 10 * m + 10 → 10 ^ 9 ≤ m → k < 10 ^ 10
    → (n * pu) * q ≡ (m * (10 * ps)) * c
    → IsMultiple (pa * q) (10 * (ps * pb)) ⊎ IsMultiple (10 * (ps * pb)) (10 * (pa * q))
    → n * (pu * pb) < k * (pa * c) → IsBelow v ((T + 1) * ps) q
    → IsBelow v (n * (pu * pb) + k * (pa * c)) (2 * (c * pb))
larger_from v T m n k pu pb pa c ps q c_pos pb_pos q_pos rounded m_size k_size link apart less cut =
    let e : (n * (pu * pb)) * q ≡ (m * (10 * (ps * pb))) * c = answered_steps n m pu pb ps c q link in
    let l : (n * (pu * pb)) * q < (k * (pa * c)) * q = mul-lt-mul_of_pos_right less q_pos in
    let f : (m * (10 * (ps * pb))) * c < (k * (pa * q)) * c = omega arith in
    let g : m * (10 * (ps * pb)) < k * (pa * q) = lt_of_mul-lt-mul_right c f in
    let next = above_next m k (10 * (ps * pb)) (pa * q) m_size k_size apart g in
    let h = half_way_above T m (10 * (ps * pb)) (pa * q) k (ps * pb) c rounded next refl in
    let w : 0 < 2 * (c * pb) = mul-pos (omega arith) (mul-pos c_pos pb_pos) in
    below_more v ((T + 1) * ps) q (n * (pu * pb) + k * (pa * c)) (2 * (c * pb)) q_pos w (omega (arith, h)) cut

pub smaller_from : (v : Exact) (T m n k pu pb pa c ps q : ℕ) → 0 < c → 0 < pb → 0 < q → 10 ^ 10 ≤ T → 10 * m ≤ T + 5 → 10 ^ 9 ≤ m
    → k < 10 ^ 10 → (n * pu) * q ≡ (m * (10 * ps)) * c → IsMultiple (pa * q) (10 * (ps * pb)) ⊎ IsMultiple (10 * (ps * pb)) (10 * (pa * q))
    → k * (pa * c) < n * (pu * pb) → IsAtLeast v (T * ps) q → IsAtLeast v (n * (pu * pb) + k * (pa * c)) (2 * (c * pb))
smaller_from v T m n k pu pb pa c ps q c_pos pb_pos q_pos T_size rounded m_size k_size link apart less cut =
    let e : (n * (pu * pb)) * q ≡ (m * (10 * (ps * pb))) * c = answered_steps n m pu pb ps c q link in
    let l : (k * (pa * c)) * q < (n * (pu * pb)) * q = mul-lt-mul_of_pos_right less q_pos in
    let f : (k * (pa * q)) * c < (m * (10 * (ps * pb))) * c = omega arith in
    let g : k * (pa * q) < m * (10 * (ps * pb)) = lt_of_mul-lt-mul_right c f in
    let h = half_way_below T m (10 * (ps * pb)) (pa * q) k (ps * pb) c T_size rounded m_size k_size refl apart g in
    let w : 0 < 2 * (c * pb) = mul-pos (omega arith) (mul-pos c_pos pb_pos) in
    at_least_less v (T * ps) q (n * (pu * pb) + k * (pa * c)) (2 * (c * pb)) q_pos w (omega (arith, h)) cut

powers_of : (i j X Y : ℕ) → 10 ^ i ≡ X → 10 ^ j ≡ Y → IsMultiple Y X ⊎ IsMultiple X (10 * Y)
powers_of i j X Y ex ey =
    let P : ℕ → Type 0 = λ y. IsMultiple y X ⊎ IsMultiple X (10 * y) in
    let Q : ℕ → Type 0 = λ x. IsMultiple (10 ^ j) x ⊎ IsMultiple x (10 * 10 ^ j) in
    subst P ey (subst Q ex (powers_apart i j))

steps_apart : (a b scale o : ℕ)
    → IsMultiple (10 ^ a * 10 ^ o) (10 * (10 ^ scale * 10 ^ b)) ⊎ IsMultiple (10 * (10 ^ scale * 10 ^ b)) (10 * (10 ^ a * 10 ^ o))
steps_apart a b scale o =
    powers_of (suc (scale + b)) (a + o) (10 * (10 ^ scale * 10 ^ b)) (10 ^ a * 10 ^ o)
    (pow-suc 10 (scale + b) ∙ (ap (λ t. t * 10) (pow-add 10 scale b) ∙ mul_comm (10 ^ scale * 10 ^ b) 10)) (pow-add 10 a o)

-- The size T * 10^scale / 10^o to which a size was cut, rounded to m in the place before the last, is nearest. The numbers n, up and down
-- are a way to write it.
pub near_at : (v : Exact) (T m n scale up down o : ℕ) → IsAtLeast v (T * 10 ^ scale) (10 ^ o) → IsBelow v ((T + 1) * 10 ^ scale) (10 ^ o)
    → 10 ^ 10 ≤ T → 10 * m ≤ T + 5 → T + 5 < 10 * m + 10 → 10 ^ 9 ≤ m
    → (n * 10 ^ up) * 10 ^ o ≡ (m * (10 * 10 ^ scale)) * 10 ^ down → IsNear v n up down
near_at v T m n scale up down o least below T_size low high m_size link = record {
  larger = λ k a b ten less.
      larger_from v T m n k (10 ^ up) (10 ^ b) (10 ^ a) (10 ^ down) (10 ^ scale) (10 ^ o) (ten_pow_pos down) (ten_pow_pos b) (ten_pow_pos o)
      high m_size ten.below link (steps_apart a b scale o) less below;
  smaller = λ k a b ten less.
      smaller_from v T m n k (10 ^ up) (10 ^ b) (10 ^ a) (10 ^ down) (10 ^ scale)
      (10 ^ o) (ten_pow_pos down) (ten_pow_pos b) (ten_pow_pos o)
      T_size low m_size ten.below link (steps_apart a b scale o) less least;
}
