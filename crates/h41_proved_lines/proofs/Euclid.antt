-- Euclid's algorithm on whole numbers: divisors, and how fast the numbers fall.
use Rattle.std.proofs.Common.{◌≡◌, ℕ, zero, suc, ◌+◌, ◌-◌, ◌*◌, ◌/◌, ◌%◌, ◌^◌, ◌<◌, ◌≤◌, ◌⊎◌, inl, inr, refl, sym, ap, ◌∙◌, arith}
use Rattle.std.proofs.Common.{mul-le-mul_left}
use Rattle.std.proofs.Math.Nat.{mul-lt-mul_of_pos_left, mul-lt-mul_of_pos_right}
use Rattle.std.proofs.lemmas.Bool.{cases_lt}
use Rattle.std.proofs.lemmas.Nat.{div-add-mod', mod_below}
use Rattle.h41_reasoning_lines.proofs.Wholes.{IsRemainder}
use Rattle.h41_proved_lines.specs.GreatestCommonDivisor.{Divides, IsGreatestCommonDivisor}

-- The quotient and the remainder of two numbers.
pub record HasRemainder (y x : ℕ) : Type 0 where
  pub quotient : ℕ
  pub rest : ℕ
  pub is : IsRemainder y x quotient rest
  pub small : rest ≤ y

pub remainder : (y x : ℕ) → HasRemainder y x
remainder y zero =
    record { quotient = 0; rest = y; is = record { parts = omega arith; least = inr refl }; small = omega arith }
remainder y (suc n) =
    let parts : y / suc n * suc n + y % suc n ≡ y = div-add-mod' y (suc n) in
    record {
      quotient = y / suc n;
      rest = y % suc n;
      is = record { parts = sym parts; least = inl (mod_below y (suc n) (omega arith)) };
      small = omega (arith, parts);
    }

-- The common divisors of two numbers are those of two others.
pub record SameDivisors (a b y x : ℕ) : Type 0 where
  pub there : (d : ℕ) → Divides d a → Divides d b → Divides d y × Divides d x
  pub back : (d : ℕ) → Divides d y → Divides d x → Divides d a × Divides d b

sum_divided : (d q k l y x rest : ℕ) → y ≡ q * x + rest → x ≡ k * d → rest ≡ l * d → y ≡ (q * k + l) * d
sum_divided d q k l y x rest parts x_is rest_is =
    let product : q * x ≡ q * (k * d) = ap (λ (n : ℕ). q * n) x_is in
    omega (arith, parts, product, rest_is)

pub divides_sum : (d q y x rest : ℕ) → y ≡ q * x + rest → Divides d x → Divides d rest → Divides d y
divides_sum d q y x rest parts of_x of_rest =
    (q * of_x.0 + of_rest.0, sum_divided d q of_x.0 of_rest.0 y x rest parts of_x.1 of_rest.1)

enough_times : (d m n rest : ℕ) → 0 < d → m * d ≡ n * d + rest → (m < n) ⊎ (n ≤ m) → n ≤ m
enough_times d m n rest some is (inl less) =
    absurd (let product : m * d < n * d = mul-lt-mul_of_pos_right less some in omega (arith, product, is))
enough_times d m n rest some is (inr least) = least

less_times : (d m n rest : ℕ) → m * d ≡ n * d + rest → (d ≡ 0) ⊎ (n ≤ m)
less_times zero m n rest is = inl refl
less_times (suc d) m n rest is = inr (enough_times (suc d) m n rest (omega arith) is (cases_lt m n))

difference_divided : (d m n rest : ℕ) → m * d ≡ n * d + rest → n ≤ m → rest ≡ (m - n) * d
difference_divided d m n rest is order =
    let whole : m ≡ (m - n) + n = omega (arith, order) in
    let product : m * d ≡ ((m - n) + n) * d = ap (λ (t : ℕ). t * d) whole in
    omega (arith, product, is)

rest_divided : (d m n rest : ℕ) → m * d ≡ n * d + rest → Divides d rest
rest_divided d m n rest is = elim (less_times d m n rest is) [
  | inl none ↦ (0, nothing d m n rest is none)
  | inr order ↦ (m - n, difference_divided d m n rest is order)
]
  where
    nothing : (d m n rest : ℕ) → m * d ≡ n * d + rest → d ≡ 0 → rest ≡ 0 * d
    nothing d m n rest is none =
        let first : m * d ≡ m * 0 = ap (λ (t : ℕ). m * t) none in
        let second : n * d ≡ n * 0 = ap (λ (t : ℕ). n * t) none in
        omega (arith, first, second, is, none)

divided_parts : (d q k l y x rest : ℕ) → y ≡ q * x + rest → y ≡ k * d → x ≡ l * d → k * d ≡ (q * l) * d + rest
divided_parts d q k l y x rest parts y_is x_is =
    let product : q * x ≡ q * (l * d) = ap (λ (n : ℕ). q * n) x_is in
    omega (arith, parts, product, y_is)

pub divides_rest : (d q y x rest : ℕ) → y ≡ q * x + rest → Divides d y → Divides d x → Divides d rest
divides_rest d q y x rest parts of_y of_x =
    rest_divided d of_y.0 (q * of_x.0) rest (divided_parts d q of_y.0 of_x.0 y x rest parts of_y.1 of_x.1)

-- A round keeps the common divisors.
pub same_divisors : (a b q y x rest : ℕ) → y ≡ q * x + rest → SameDivisors a b y x → SameDivisors a b x rest
same_divisors a b q y x rest parts same = record {
  there = λ d of_a of_b.
      let both = same.there d of_a of_b in (both.1, divides_rest d q y x rest parts both.0 both.1);
  back = λ d of_x of_rest. same.back d (divides_sum d q y x rest parts of_x of_rest) of_x;
}

-- After the last round, the number that is left is the greatest common divisor.
pub greatest : (a b g : ℕ) → SameDivisors a b g 0 → IsGreatestCommonDivisor a b g
greatest a b g same =
    let own = same.back g (1, omega arith) (0, omega arith) in
    record { of_a = own.0; of_b = own.1; greatest = λ d of_a of_b. (same.there d of_a of_b).0 }

-- How many more rounds there can be. From the second round on, the product of the numbers is halved by each.
abbrev pub Falls : ℕ → ℕ → ℕ → Type 0
Falls left y x =
    ((0 < x) × (x < y) × (y * x < 2 ^ left))
    ⊎ (((y ≡ 0) × (68 ≤ left))
    ⊎ (69 ≤ left))

halved : (l q y x rest : ℕ) → 0 < x → x < y → y * x < 2 ^ suc l → y ≡ q * x + rest → rest < x → x * rest < 2 ^ l
halved l q y x rest some order bound parts less =
    let power : 2 ^ suc l ≡ 2 * 2 ^ l = omega arith in
    let twice : rest + rest < y = twice_below q y x rest order parts less in
    let product : x * (rest + rest) < x * y = mul-lt-mul_of_pos_left twice some in
    omega (arith, product, bound, power)
  where
    twice_below : (q y x rest : ℕ) → x < y → y ≡ q * x + rest → rest < x → rest + rest < y
    twice_below zero y x rest order parts less = absurd (omega (arith, order, parts, less))
    twice_below (suc q) y x rest order parts less = omega (arith, parts, less)

some_product : (y x : ℕ) → 0 < x → x < y → 0 < y * x
some_product y x some order =
    let product : x * 0 < x * y = mul-lt-mul_of_pos_left (let positive : 0 < y = omega (arith, order) in positive) some in
    omega (arith, product)

small_product : (x rest : ℕ) → x < 10 ^ 10 → rest < 10 ^ 10 → x * rest < 2 ^ 68
small_product x rest small less =
    let product : x * rest ≤ x * 10 ^ 10 = mul-le-mul_left x (omega (arith, less)) in
    omega (arith, product, small)

-- A round that leaves a remainder lowers the count.
pub record Fewer (left x rest : ℕ) : Type 0 where
  pub fewer : ℕ
  pub less : fewer < left
  pub falls : Falls fewer x rest

fewer_normal : (left q y x rest : ℕ) → y ≡ q * x + rest → rest < x → 0 < rest → 0 < x → x < y → y * x < 2 ^ left → Fewer left x rest
fewer_normal zero q y x rest parts less some some_x order bound =
    absurd (let product = some_product y x some_x order in omega (arith, product, bound))
fewer_normal (suc l) q y x rest parts less some some_x order bound = record {
  fewer = l;
  less = omega arith;
  falls = inl (some, less, halved l q y x rest some_x order bound parts less);
}

fewer_first : (left y x rest : ℕ) → x < 10 ^ 10 → rest < 10 ^ 10 → 69 ≤ left → 0 < rest → (rest < x) ⊎ (x ≡ 0) → Fewer left x rest
fewer_first left y x rest small small_rest enough some (inl less) =
    record { fewer = 68; less = omega (arith, enough); falls = inl (some, less, small_product x rest small small_rest) }
fewer_first left y x rest small small_rest enough some (inr none) =
    record { fewer = 68; less = omega (arith, enough); falls = inr (inl (none, omega arith)) }

none_left : (q x rest : ℕ) → 0 ≡ q * x + rest → rest ≡ 0
none_left q x rest parts = omega (arith, parts)

fewer_normal_or : (left q y x rest : ℕ) → y ≡ q * x + rest → (rest < x) ⊎ (x ≡ 0) → 0 < rest → 0 < x → x < y → y * x < 2 ^ left
    → Fewer left x rest
fewer_normal_or left q y x rest parts (inl less) some some_x order bound = fewer_normal left q y x rest parts less some some_x order bound
fewer_normal_or left q y x rest parts (inr none) some some_x order bound = absurd (omega (arith, none, some_x))

pub fewer_rounds : (left q y x rest : ℕ) → IsRemainder y x q rest → x < 10 ^ 10 → rest < 10 ^ 10 → 0 < rest → Falls left y x
    → Fewer left x rest
fewer_rounds left q y x rest is small small_rest some (inl (some_x, order, bound)) =
    fewer_normal_or left q y x rest is.parts is.least some some_x order bound
fewer_rounds left q y x rest is small small_rest some (inr (inl (none, enough))) =
    absurd (let nothing = none_left q x rest (sym none ∙ is.parts) in omega (arith, nothing, some))
fewer_rounds left q y x rest is small small_rest some (inr (inr enough)) =
    fewer_first left y x rest small small_rest enough some is.least
