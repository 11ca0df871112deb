-- The powers of ten around a number, and whole square roots.
use Rattle.std.proofs.Common.{◌≡◌, ℕ, zero, suc, ◌+◌, ◌*◌, ◌^◌, ◌<◌, ◌≤◌, inl, inr, arith}
use Rattle.std.proofs.Math.Nat.{pow-suc}
use Rattle.std.proofs.lemmas.Nat.{pow-add}
use Rattle.std.proofs.lemmas.Bool.{cases_lt}
use Rattle.h41_decimal.proofs.Nearest.{ten_pow_pos}

-- A number has one digit more than this count.
pub record HasDigits (number : ℕ) : Type 0 where
  pub count : ℕ
  pub least : 10 ^ count ≤ number
  pub next : number < 10 ^ (count + 1)

pub has_digits : (number : ℕ) → HasDigits (number + 1)
has_digits zero = record { count = 0; least = omega arith; next = omega arith }
has_digits (suc number) =
    let before = has_digits number in
    let power : 10 ^ (before.count + 1 + 1) ≡ 10 ^ (before.count + 1) * 10 = pow-add 10 (before.count + 1) 1 in
    let some : 0 < 10 ^ (before.count + 1) = ten_pow_pos (before.count + 1) in
    elim (cases_lt (suc number + 1) (10 ^ (before.count + 1))) [
      | inl less ↦ record { count = before.count; least = omega (arith, before.least); next = omega arith }
      | inr more ↦ record { count = before.count + 1; least = omega arith; next = omega (arith, before.next) }
    ]

-- A number is below its power of ten.
pub below_power : (number : ℕ) → number < 10 ^ number
below_power zero = omega arith
below_power (suc number) =
    let power : 10 ^ (suc number) ≡ 10 ^ number * 10 = pow-suc 10 number in
    omega (arith, below_power number)

-- The whole square root of a number.
pub record HasRoot (number : ℕ) : Type 0 where
  pub root : ℕ
  pub least : root * root ≤ number
  pub next : number < (root + 1) * (root + 1)

pub has_root : (number : ℕ) → HasRoot number
has_root zero = record { root = 0; least = omega arith; next = omega arith }
has_root (suc number) =
    let before = has_root number in
    let next : number < (before.root + 1) * (before.root + 1) = before.next in
    let least : before.root * before.root ≤ number = before.least in
    elim (cases_lt (suc number) ((before.root + 1) * (before.root + 1))) [
      | inl less ↦ record { root = before.root; least = omega arith; next = less }
      | inr more ↦ record { root = before.root + 1; least = more; next = omega arith }
    ]
