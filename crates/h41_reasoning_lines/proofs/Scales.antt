-- A fraction that is multiplied above and below has the same nearest decimal.
use Rattle.std.proofs.Common.{◌≡◌, ℕ, zero, suc, ◌*◌, ◌<◌, ◌≤◌, Bool, true, false, Ok, arith}
use Rattle.std.specs.Prelude.{MatchBool, ◌==◌, pos, Result}
use Rattle.std.proofs.Math.Nat.{mul-le-mul_right, mul-lt-mul_of_pos_right}
use Rattle.std.proofs.lemmas.Bool.{ne_eqb}
use Rattle.h41_decimal.specs.NearestDecimal.{Fraction, IsRounded, Nearest}
use Rattle.h41_decimal.specs.declared.fault.DecimalFault.{DecimalFault}
use Rattle.h41_decimal.specs.declared.sign.Sign.{Sign}
use Rattle.h41_decimal.specs.declared.sign.Sign.TheVariants.{Plus}
use Rattle.h41_decimal.specs.declared.ten.Ten.{Ten}

less_scaled : (n c above below : ℕ) → 0 < c → n * below < above * 1 → (n * c) * below < above * c
less_scaled n c above below some less =
    let product : (n * below) * c < (above * 1) * c = mul-lt-mul_of_pos_right less some in omega (arith, product)

least_scaled : (n c above below : ℕ) → above * 1 ≤ n * below → above * c ≤ (n * c) * below
least_scaled n c above below least =
    let product : (above * 1) * c ≤ (n * below) * c = mul-le-mul_right c least in omega (arith, product)

rounded : (sign : Sign) (n c : ℕ) (answer : Result Ten DecimalFault) → 0 < c → IsRounded sign (Fraction n 1) answer
    → IsRounded sign (Fraction (n * c) c) answer
rounded sign n c answer some is = record {
  digits = is.digits;
  exponent = is.exponent;
  ten_digits = is.ten_digits;
  near = record {
    larger = λ others a b ten less. less_scaled n c _ _ some (is.near.larger others a b ten less);
    smaller = λ others a b ten less. least_scaled n c _ _ (is.near.smaller others a b ten less);
  };
  bounded = is.bounded;
}

some_part : (none : Bool) (A B : Type 0) → none ≡ false → MatchBool none A B → B
some_part true A B is part = absurd (cc)
some_part false A B is part = part

whole_part : (none : Bool) (A B : Type 0) → none ≡ false → B → MatchBool none A B
whole_part true A B is part = absurd (cc)
whole_part false A B is part = part

pub scaled : (n c : ℕ) (answer : Ten) → 0 < n * c → 0 < c → Nearest (pos n) 1 (Ok answer) → Nearest (pos (n * c)) c (Ok answer)
scaled n c answer some factor is =
    let whole : (n == 0) ≡ false = whole_some n c some in
    let product : (n * c == 0) ≡ false = ne_eqb (n * c) 0 (λ same. omega (arith, same, some)) in
    whole_part (n * c == 0) _ _ product (rounded Plus n c (Ok answer) factor (some_part (n == 0) _ _ whole is))
  where
    whole_some : (m k : ℕ) → 0 < m * k → (m == 0) ≡ false
    whole_some zero k more = absurd (omega (arith, more))
    whole_some (suc m) k more = ne_eqb (suc m) 0 (λ same. omega (arith, same))
