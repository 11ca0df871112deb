-- The nearest decimal is determined.
use Rattle.std.proofs.Common.{◌≡◌, ℕ, ◌+◌, ◌*◌, ◌^◌, ◌<◌, sym, ◌∙◌, ap, arith, Result, Ok, Err, Bool, true, false}
use Rattle.std.proofs.Common.{MatchBool, IsOkAnd}
use Rattle.std.specs.Prelude.{ℤ, pos, negsuc, nat_le, ◌==◌, unsigned_abs}
use Rattle.std.proofs.Math.Nat.{eq_of_mul-eq-mul_right}
use Rattle.std.proofs.lemmas.Nat.{pow-add}
use Rattle.h41_decimal.specs.Signs.{with_sign, sign_of}
use Rattle.h41_decimal.specs.Units.{one, size_of, units}
use Rattle.h41_decimal.specs.NearestDecimal.{Exact, Fraction, RootOf, IsBelow, IsAtLeast, IsNear, IsTenDigits, IsBounded, IsRounded}
use Rattle.h41_decimal.specs.NearestDecimal.{Nearest, NearestRoot, up_of, down_of}
use Rattle.h41_decimal.proofs.Same.{neither_less, one_exponent, units_injective}
use Rattle.h41_decimal.specs.declared.fault.DecimalFault.{DecimalFault}
use Rattle.h41_decimal.specs.declared.fault.DecimalFault.TheVariants.{Range}
use Rattle.h41_decimal.specs.declared.sign.Sign.{Sign}
use Rattle.h41_decimal.specs.declared.sign.Sign.TheVariants.{Plus}
use Rattle.h41_decimal.specs.declared.ten.Ten.{Ten}
use Rattle.h41_decimal.specs.declared.ten.Ten.TheVariants.{Zero}
use Rattle.h41_decimal.proofs.Nearest.{ten_pow_pos}
use Rattle.h41_decimal.proofs.Tens.{lower_exponent}

-- A size is not less than a bound that it reaches.
not_both : (v : Exact) (p p' q q' : ℕ) → p ≡ p' → q ≡ q' → IsBelow v p q → IsAtLeast v p' q' → ⊥
not_both (Fraction n d) p p' q q' e f below least =
    let a : p * d ≡ p' * d = ap (λ t. t * d) e in
    let b : n * q ≡ n * q' = ap (λ t. n * t) f in
    omega arith
not_both (RootOf n) p p' q q' e f below least =
    let a : p * p ≡ p' * p' = ap (λ t. t * t) e in
    let b : n * (q * q) ≡ n * (q' * q') = ap (λ t. n * (t * t)) f in
    omega arith

-- Of two nearest decimals, neither is smaller.
not_smaller : (v : Exact) (m a b n a' b' : ℕ) → IsTenDigits m → IsTenDigits n → IsNear v m a b → IsNear v n a' b'
    → m * (10 ^ a * 10 ^ b') < n * (10 ^ a' * 10 ^ b) → ⊥
not_smaller v m a b n a' b' m_ten n_ten x y less =
    not_both v (m * (10 ^ a * 10 ^ b') + n * (10 ^ a' * 10 ^ b))
    (n * (10 ^ a' * 10 ^ b) + m * (10 ^ a * 10 ^ b')) (2 * (10 ^ b * 10 ^ b')) (2 * (10 ^ b' * 10 ^ b))
    (omega arith) (omega arith) (x.larger n a' b' n_ten less) (y.smaller m a b m_ten less)

same_size : (v : Exact) (m a b n a' b' : ℕ) → IsTenDigits m → IsTenDigits n → IsNear v m a b → IsNear v n a' b'
    → m * (10 ^ a * 10 ^ b') ≡ n * (10 ^ a' * 10 ^ b)
same_size v m a b n a' b' m_ten n_ten x y =
    neither_less (m * (10 ^ a * 10 ^ b')) (n * (10 ^ a' * 10 ^ b))
    (not_smaller v m a b n a' b' m_ten n_ten x y) (not_smaller v n a' b' m a b n_ten m_ten y x)

-- Equal sizes of ten digits have one exponent.
same_steps : (m n s t : ℕ) → IsTenDigits m → IsTenDigits n → m * (10 ^ s * 1) ≡ n * (10 ^ t * 1) → s ≡ t
same_steps m n s t m_ten n_ten e = one_exponent m n s t m_ten.at_least m_ten.below n_ten.at_least n_ten.below (omega arith)

-- A size in range is not one below it.
not_below_range : (m n s d : ℕ) → IsTenDigits m → IsTenDigits n → m * (10 ^ s * 10 ^ (d + 1)) ≡ n * (1 * 1) → ⊥
not_below_range m n s d m_ten n_ten e =
    let p : 10 ^ (s + (d + 1)) ≡ 10 ^ s * 10 ^ (d + 1) = pow-add 10 s (d + 1) in
    let mp : m * 10 ^ (s + (d + 1)) ≡ m * (10 ^ s * 10 ^ (d + 1)) = ap (λ t. m * t) p in
    let h = lower_exponent n m 0 (s + (d + 1)) n_ten.below m_ten.at_least (omega arith) in
    omega arith

-- The result if it is in range.
in_range : (b : Bool) (z : ℤ) (x y : Result Ten DecimalFault) → MatchBool b (IsOkAnd x (λ number. units number ≡ z)) (x ≡ Err Range)
    → MatchBool b (IsOkAnd y (λ number. units number ≡ z)) (y ≡ Err Range) → x ≡ y
in_range true z (Ok x) (Ok y) h k = ap Ok (units_injective x y (h ∙ sym k))
in_range true z (Ok x) (Err f) h k = absurd k
in_range true z (Err f) y h k = absurd h
in_range false z x y h k = h ∙ sym k

answers : (sign : Sign) (v : Exact) (m : ℕ) (e : ℤ) (n : ℕ) (f : ℤ) (x y : Result Ten DecimalFault) → IsTenDigits m → IsTenDigits n
    → IsNear v m (up_of e) (down_of e) → IsNear v n (up_of f) (down_of f) → IsBounded sign m e x → IsBounded sign n f y
    → x ≡ y
answers sign v m (negsuc d) n (negsuc d') x y m_ten n_ten near near' bounded bounded' = bounded ∙ sym bounded'
answers sign v m (pos s) n (negsuc d) x y m_ten n_ten near near' bounded bounded' =
    absurd (not_below_range m n s d m_ten n_ten (same_size v m s 0 n 0 (d + 1) m_ten n_ten near near'))
answers sign v m (negsuc d) n (pos s) x y m_ten n_ten near near' bounded bounded' =
    absurd (not_below_range n m s d n_ten m_ten (same_size v n s 0 m 0 (d + 1) n_ten m_ten near' near))
answers sign v m (pos s) n (pos t) x y m_ten n_ten near near' bounded bounded' =
    let e = same_size v m s 0 n t 0 m_ten n_ten near near' in
    let st : s ≡ t = same_steps m n s t m_ten n_ten e in
    let p : n * (10 ^ t * 1) ≡ n * (10 ^ s * 1) = ap (λ k. n * (10 ^ k * 1)) (sym st) in
    let mn : m ≡ n = eq_of_mul-eq-mul_right (10 ^ s) (ten_pow_pos s) m n (omega arith) in
    in_range (nat_le s 198) (with_sign sign (size_of m s)) x y bounded (rw (mn, st) bounded')

rounded_determined : (sign : Sign) (v : Exact) (x y : Result Ten DecimalFault) → IsRounded sign v x → IsRounded sign v y → x ≡ y
rounded_determined sign v x y h k =
    answers sign v h.digits h.exponent k.digits k.exponent x y h.ten_digits k.ten_digits h.near k.near h.bounded k.bounded

either : (b : Bool) (sign : Sign) (v : Exact) (x y : Result Ten DecimalFault)
    → MatchBool b (x ≡ Ok Zero) (IsRounded sign v x) → MatchBool b (y ≡ Ok Zero) (IsRounded sign v y) → x ≡ y
either true sign v x y h k = h ∙ sym k
either false sign v x y h k = rounded_determined sign v x y h k

pub nearest_determined : (above : ℤ) (below : ℕ) (x y : Result Ten DecimalFault) → Nearest above below x → Nearest above below y → x ≡ y
nearest_determined above below x y h k = either (unsigned_abs above == 0) (sign_of above) (Fraction (unsigned_abs above) below) x y h k

pub root_determined : (number : ℤ) (x y : Result Ten DecimalFault) → NearestRoot number x → NearestRoot number y → x ≡ y
root_determined (pos size) x y h k = either (size == 0) Plus (RootOf (size * one)) x y h k
root_determined (negsuc size) x y h k = h ∙ sym k
