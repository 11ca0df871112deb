-- How a register is stored: as the number that its digits form. No contract mentions this.
use Rattle.std.specs.Prelude.{◌≡◌, ℕ, zero, suc, ◌+◌, ◌*◌, ◌/◌, ◌%◌, ◌^◌, ◌<◌, List, [], ◌∷◌}
use Rattle.std.proofs.Common.{refl, sym, ap, subst, add-one, ◌∙◌, lit<}
use Rattle.std.proofs.Math.Nat.{pow-suc, pow-succ', mul-one, mul-add, mul_left_comm, mod-add-div}
use Rattle.std.proofs.Math.Arith.{lt-one}
use Rattle.std.proofs.lemmas.Nat.{div_below}
use Rattle.h41_digits.specs.Register.{value_from, value}

-- The lowest digits of a number, as many as asked for, the lowest first.
abbrev pub digits_of : ℕ → ℕ → List ℕ
digits_of zero number = []
digits_of (suc places) number = number % 16 ∷ digits_of places (number / 16)

-- The weight of the next place is sixteen times the weight of this one.
pub pow-next : (place : ℕ) → 16 ^ (place + 1) ≡ 16 * 16 ^ place
pow-next place = ap (λ n. 16 ^ n) (add-one place) ∙ pow-succ' 16 place

-- One place higher, each digit counts sixteen times as much.
pub value_from-next : (place : ℕ) (digits : List ℕ)
    → value_from (place + 1) digits ≡ 16 * value_from place digits
value_from-next place [] = refl
value_from-next place (digit ∷ digits) =
    ap (λ weight. digit * weight + value_from (place + 1 + 1) digits) (pow-next place)
    ∙ ap (λ n. n + value_from (place + 1 + 1) digits) (mul_left_comm digit 16 (16 ^ place))
    ∙ ap (λ n. 16 * (digit * 16 ^ place) + n) (value_from-next (place + 1) digits)
    ∙ sym (mul-add 16 (digit * 16 ^ place) (value_from (place + 1) digits))

-- With a digit below the others, the number is this digit plus sixteen times the number of the
-- others.
pub value-cons : (digit : ℕ) (digits : List ℕ) → value (digit ∷ digits) ≡ digit + 16 * value digits
value-cons digit digits =
    ap (λ n. n + value_from (0 + 1) digits) (mul-one digit)
    ∙ ap (λ n. digit + n) (value_from-next 0 digits)

-- The digits of a number that fits into them hold that number.
pub value-digits_of : (places number : ℕ) → number < 16 ^ places
    → value (digits_of places number) ≡ number
value-digits_of zero number small = sym (lt-one small)
value-digits_of (suc places) number small =
    let less : number / 16 < 16 ^ places =
    div_below number 16 (16 ^ places) (lit< tt)
    (subst (λ limit. number < limit) (pow-suc 16 places) small) in
    value-cons (number % 16) (digits_of places (number / 16))
    ∙ ap (λ n. number % 16 + 16 * n) (value-digits_of places (number / 16) less)
    ∙ mod-add-div number 16
