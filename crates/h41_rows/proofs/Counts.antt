-- The integer part and the fraction of a loop's counter.
use Rattle.std.proofs.Common.{◌≡◌, ℕ, true, false, zero, suc, ◌+◌, ◌-◌, ◌*◌, ◌/◌, ◌%◌, ◌^◌, ◌<◌, ◌≤◌, ◌⊎◌, inl, inr, ⊎_elim, sym, ◌∙◌, ap}
use Rattle.std.proofs.Common.{refl, subst, arith, rules}
use Rattle.std.specs.Prelude.{ℤ, pos, negsuc, ◌+ℤ◌, ◌-ℤ◌, unsigned_abs}
use Rattle.std.proofs.Math.Nat.{mul-lt-mul_of_pos_right, pow-le-pow_right}
use Rattle.std.proofs.lemmas.Nat.{pow-add}
use Rattle.std.proofs.lemmas.Bool.{cases_lt}
use Rattle.std.proofs.lemmas.Int.{ints}
use denote.Enum.Bare.{sameb}
use Rattle.h41_decimal.specs.contracts.sign.Sign.{the_type}
use Rattle.h41_decimal.specs.Signs.{opposite_of, with_sign, sign_of}
use Rattle.h41_decimal.specs.Units.{one, size, units}
use Rattle.h41_decimal.specs.WholeParts.{HasOnes, IsFraction}
use Rattle.h41_decimal.specs.declared.parts.Magnitude.{Magnitude}
use Rattle.h41_decimal.specs.declared.sign.Sign.{Sign}
use Rattle.h41_decimal.specs.declared.sign.Sign.TheVariants.{Plus, Minus}
use Rattle.h41_decimal.specs.declared.ten.Ten.{Ten}
use Rattle.h41_decimal.specs.declared.ten.Ten.TheVariants.{Zero, Nonzero}
use Rattle.h41_decimal.proofs.Nearest.{ten_pow_pos}
use Rattle.h41_decimal.proofs.Signed.{signed-add, signed-sub, signed-sub_same, signed-sub_turned}
use Rattle.h41_decimal.proofs.Steps.{sign_of-signed}
use Rattle.h41_decimal.proofs.Tens.{minus_same_sign, signs_apart, signs_same, size_pos, unsigned_abs-signed}
use Rattle.h41_decimal.proofs.Wholes.{all_ones, ten_of_fewer, filled_worth}
use Rattle.h41_rows.specs.Counters.{count_of, counter_of, fraction_of}
use Rattle.h41_rows.specs.private.Counting.{count_in, number_along, with_ones}

-- A whole number of at most ten digits, filled with zeros.
pub log_few : (log n : ℕ) → 10 ^ log ≤ n → n < 10 ^ 10 → log ≤ 9
log_few log n least few =
    ⊎_elim
    (λ (more : 9 < log).
    absurd (let ten : 0 < 10 =
    omega arith in
    let le : 10 ≤ log = omega arith in let p : 10 ^ 10 ≤ 10 ^ log = pow-le-pow_right ten le in omega arith))
    (λ (fits : log ≤ 9). fits)
    (cases_lt 9 log)

pub filled : (log n p : ℕ) → p ≡ 10 ^ (9 - log) → log ≤ 9 → 10 ^ log ≤ n → n < 10 * 10 ^ log → (10 ^ 9 ≤ n * p) × (n * p < 10 ^ 10)
filled log n p is fits least next =
    let up : 10 ^ (log + 1) ≡ 10 ^ log * 10 ^ 1 = pow-add 10 log 1 in
    ten_of_fewer n (log + 1) (9 - log) p is (omega arith) (omega arith) (omega arith)

pub whole_worth : (log n p : ℕ) → p ≡ 10 ^ (9 - log) → log ≤ 9 → n * p * 10 ^ (99 + log) ≡ n * one
whole_worth log n p is fits =
    let steps : 108 - (9 - log) ≡ 99 + log = omega arith in
    ap (λ (t : ℕ). n * p * 10 ^ t) (sym steps) ∙ filled_worth n (9 - log) 108 p is (omega arith)

-- The size of a fraction.
signed_self : (z : ℤ) → z ≡ with_sign (sign_of z) (unsigned_abs z)
signed_self (pos n) = refl
signed_self (negsuc n) = refl

pub fraction_size : (z rest : ℤ) → IsFraction z rest → unsigned_abs rest ≡ fraction_of z
fraction_size z rest f = search (rules, signed_self, signed-sub, unsigned_abs-signed)

pub rest_size : (number rest : Ten) (sign : Sign) (x : Magnitude) → IsFraction (units number) (units rest) → rest ≡ Nonzero sign x
    → size x ≡ fraction_of (units number)
rest_size number rest sign x fraction is =
    sym (unsigned_abs-signed sign (size x))
    ∙ (ap (λ (t : Ten). unsigned_abs (units t)) (sym is) ∙ fraction_size (units number) (units rest) fraction)

-- A number with a fraction has at most nine digits before it.
small_size : (m s : ℕ) → m < 10 ^ 10 → 0 < m * 10 ^ s % 10 ^ 108 → m * 10 ^ s < 10 ^ 9 * 10 ^ 108
small_size m s below rest =
    ⊎_elim
    (λ (more : 107 < s). absurd (let le : 108 ≤ s = omega arith in let e = all_ones m s le in omega (arith, e)))
    (λ (fits : s ≤ 107).
    let ten : 0 < 10 = omega arith in
    let p : 10 ^ s ≤ 10 ^ 107 = pow-le-pow_right ten fits in
    let a : m * 10 ^ s < 10 ^ 10 * 10 ^ s = mul-lt-mul_of_pos_right below (ten_pow_pos s) in
    omega arith)
    (cases_lt 107 s)

small_with_fraction : (number : Ten) → 0 < fraction_of (units number) → unsigned_abs (units number) < 10 ^ 9 * 10 ^ 108
small_with_fraction Zero some = omega arith
small_with_fraction (Nonzero sign x) some = search (rules, unsigned_abs-signed, small_size)

pub few_ones : (number : Ten) (x : Magnitude) → size x ≡ fraction_of (units number) → unsigned_abs (units number) < 10 ^ 9 * 10 ^ 108
few_ones number x same = small_with_fraction number (subst (λ (t : ℕ). 0 < t) same (size_pos x))

-- A number without a fraction counts by 1.
one_step : (s d : Sign) (q : ℕ) → with_ones (with_sign s q +ℤ with_sign d 1) 0 ≡ with_sign s (q * one) +ℤ with_sign d one
one_step Plus Plus q = omega (arith, ints)
one_step Plus Minus zero = omega (arith, ints)
one_step Plus Minus (suc q) = search (rules, ints)
one_step Minus Plus zero = omega (arith, ints)
one_step Minus Plus (suc zero) = search (rules, ints)
one_step Minus Plus (suc (suc q)) = search (rules, ints)
one_step Minus Minus zero = omega (arith, ints)
one_step Minus Minus (suc q) = search (rules, ints)

pub counts_whole : (z : ℤ) (d : Sign) → fraction_of z ≡ 0 → number_along d z ≡ z +ℤ with_sign d one
counts_whole z d none =
    let n = unsigned_abs z in
    let q : ℕ = n / 10 ^ 108 in
    let whole : q * 10 ^ 108 ≡ n = omega arith in
    ap (λ (f : ℕ). with_ones (counter_of z +ℤ with_sign d (count_in f)) f) none
    ∙ (one_step (sign_of z) d q
    ∙ (ap (λ (t : ℕ). with_sign (sign_of z) t +ℤ with_sign d one) whole ∙ ap (λ (t : ℤ). t +ℤ with_sign d one) (sym (signed_self z))))

-- A number with a fraction, by its integer part.
pub counts_ones : (z : ℤ) (s d : Sign) (ones count rest : ℕ) → s ≡ sign_of z → HasOnes (unsigned_abs z) ones → count ≡ count_in rest
    → rest ≡ fraction_of z → with_ones (with_sign s ones +ℤ with_sign d count) rest ≡ number_along d z
counts_ones z s d ones count rest sign has counts fraction = search rules

-- If the integer part keeps its sign, the increment is added to the whole number.
with_signed : (s : Sign) (n f : ℕ) → 0 < n → with_ones (with_sign s n) f ≡ with_sign s (n * one + f)
with_signed s n f some = search (rules, sign_of-signed, unsigned_abs-signed)

-- An integer part with a sign that is counted, in the four cases of `stepped`.
counted_apart : (s d : Sign) (q c : ℕ) → false ≡ sameb the_type s d → with_sign s q +ℤ with_sign d c ≡ with_sign s q -ℤ with_sign s c
counted_apart s d q c apart = search (rules, signs_apart, minus_same_sign)

pub counted_same : (s d : Sign) (q c f : ℕ) → true ≡ sameb the_type s d → 0 < c
    → with_ones (with_sign s q +ℤ with_sign d c) f ≡ with_sign s ((q + c) * one + f)
counted_same s d q c f same some = search (rules, signs_same, signed-add, with_signed)

pub counted_back : (s d : Sign) (q c f : ℕ) → false ≡ sameb the_type s d → c < q
    → with_ones (with_sign s q +ℤ with_sign d c) f ≡ with_sign s ((q - c) * one + f)
counted_back s d q c f apart less = search (rules, counted_apart, signed-sub, with_signed)

pub counted_over : (s d : Sign) (q c f : ℕ) → false ≡ sameb the_type s d → q < c
    → with_ones (with_sign s q +ℤ with_sign d c) f ≡ with_sign d ((c - q) * one + f)
counted_over s d q c f apart less = search (rules, signed-sub_turned, signs_apart, counted_apart, with_signed)

pub counted_out : (s d : Sign) (q c f : ℕ) → false ≡ sameb the_type s d → q ≤ c → c ≤ q
    → with_ones (with_sign s q +ℤ with_sign d c) f ≡ with_sign Plus (0 * one + f)
counted_out s d q c f apart up down = search (rules, counted_apart, signed-sub_same)

moved_on : (s : Sign) (q c f : ℕ) → 0 < c → with_ones (with_sign s q +ℤ with_sign s c) f
    ≡ with_sign s (q * one + f) +ℤ with_sign s (c * one)
moved_on s q c f some = search (rules, signed-add, with_signed)

moved_back : (s : Sign) (q c f : ℕ) → c < q
    → with_ones (with_sign s q +ℤ with_sign (opposite_of s) c) f ≡ with_sign s (q * one + f) +ℤ with_sign (opposite_of s) (c * one)
moved_back s q c f less = search (rules, minus_same_sign, signed-sub, with_signed)

moved : (s d : Sign) (q c f : ℕ) → 0 < c → (s ≡ d) ⊎ (c < q)
    → with_ones (with_sign s q +ℤ with_sign d c) f ≡ with_sign s (q * one + f) +ℤ with_sign d (c * one)
moved Plus Plus q c f some kept = moved_on Plus q c f some
moved Plus Minus q c f some (inl same) = absurd cc
moved Plus Minus q c f some (inr less) = moved_back Plus q c f less
moved Minus Plus q c f some (inl same) = absurd cc
moved Minus Plus q c f some (inr less) = moved_back Minus q c f less
moved Minus Minus q c f some kept = moved_on Minus q c f some

pub moves_whole : (z : ℤ) (d : Sign) (count : ℕ) → count ≡ count_of z → 0 < count → (sign_of z ≡ d) ⊎ (count < unsigned_abs z / one)
    → number_along d z ≡ z +ℤ with_sign d (count * one)
moves_whole z d count count_is some kept = search (rules, moved, signed_self)
