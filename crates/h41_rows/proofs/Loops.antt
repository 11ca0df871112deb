-- A counter of 10^10 or more is above each final value, so that all of them can be treated alike.
use Rattle.std.proofs.Common.{◌≡◌, ℕ, ◌+◌, ◌/◌, ◌%◌, ◌^◌, ◌<◌, ◌≤◌, sym, ◌∙◌, arith, Bool, true, false, rules}
use Rattle.std.specs.Prelude.{ℤ, pos, neg_ℤ, ◌+ℤ◌, ◌-ℤ◌, int_le, int_lt, unsigned_abs, ◌==◌, if◌then◌else◌}
use Rattle.std.proofs.lemmas.Bool.Decides.{nat_tests}
use Rattle.std.proofs.lemmas.Grind.{common_steps}
use Rattle.h41_decimal.specs.Signs.{with_sign, sign_of}
use Rattle.h41_decimal.specs.Units.{one}
use Rattle.h41_decimal.specs.declared.sign.Sign.{Sign}
use Rattle.h41_decimal.specs.declared.sign.Sign.TheVariants.{Plus, Minus}
use Rattle.h41_rows.specs.Counters.{Up, Down, fraction_of, goes_on}
use Rattle.h41_rows.specs.private.Wholes.{told_ones}

few_below : (n : ℕ) → n < 10 ^ 10 → told_ones n ≡ n
few_below n small = search (rules, nat_tests)

few_above : (n : ℕ) → 10 ^ 10 ≤ n → told_ones n ≡ 10 ^ 10
few_above n large = search (rules, nat_tests)

pub told-le : (n : ℕ) → told_ones n ≤ n
told-le n = search (rules, few_below, few_above)

up_fails : (q c f : ℕ) → f < q → int_le (pos q +ℤ pos c) (pos f) ≡ false
up_fails q c f high = grind (arith, common_steps)

up_holds : (q c f : ℕ) → c < q → int_le (neg_ℤ (pos q) +ℤ pos c) (pos f) ≡ true
up_holds q c f high = grind (arith, common_steps)

down_holds : (q c f : ℕ) → f + c < q → int_lt (pos f) (pos q -ℤ pos c) ≡ true
down_holds q c f high = grind (arith, common_steps)

down_fails : (q c f : ℕ) → int_lt (pos f) (neg_ℤ (pos q) -ℤ pos c) ≡ false
down_fails q c f = grind (arith, common_steps)

up_many : (s : Sign) (q c f : ℕ) → 10 ^ 10 ≤ q → c < 100 → f < 1000
    → int_le (with_sign s (10 ^ 10) +ℤ pos c) (pos f) ≡ int_le (with_sign s q +ℤ pos c) (pos f)
up_many Plus q c f many small low = up_fails (10 ^ 10) c f (omega arith) ∙ sym (up_fails q c f (omega arith))
up_many Minus q c f many small low = up_holds (10 ^ 10) c f (omega arith) ∙ sym (up_holds q c f (omega arith))

down_many : (s : Sign) (q c f : ℕ) → 10 ^ 10 ≤ q → c < 100 → f < 1000
    → int_lt (pos f) (with_sign s (10 ^ 10) -ℤ pos c) ≡ int_lt (pos f) (with_sign s q -ℤ pos c)
down_many Plus q c f many small low = down_holds (10 ^ 10) c f (omega arith) ∙ sym (down_holds q c f (omega arith))
down_many Minus q c f many small low = down_fails (10 ^ 10) c f ∙ sym (down_fails q c f)

up_few : (s : Sign) (q c f : ℕ) → c < 100 → f < 1000
    → int_le (with_sign s (told_ones q) +ℤ pos c) (pos f) ≡ int_le (with_sign s q +ℤ pos c) (pos f)
up_few s q c f small low = search (rules, few_below, few_above, up_many)

down_few : (s : Sign) (q c f : ℕ) → c < 100 → f < 1000
    → int_lt (pos f) (with_sign s (told_ones q) -ℤ pos c) ≡ int_lt (pos f) (with_sign s q -ℤ pos c)
down_few s q c f small low = search (rules, few_below, few_above, down_many)

last_of : (n : ℕ) → n / 10 ^ 103 / 100 ≡ n / 10 ^ 105
last_of n = omega arith

-- The same from the parts of a number.
pub goes_on_up : (a n : ℤ) (s : Sign) (o d c : ℕ) (r : Bool) → n ≡ a → s ≡ sign_of n → o ≡ told_ones (unsigned_abs n / one)
    → d ≡ fraction_of n / 10 ^ 103 → c ≡ (if d % 100 == 0 then 1 else d % 100) → c < 100 → d < 100000
    → r ≡ int_le (with_sign s o +ℤ pos c) (pos (d / 100)) → r ≡ goes_on Up a
goes_on_up a n s o d c r same sign ones decimals count small low e = search (rules, last_of, up_few)

pub goes_on_down : (a n : ℤ) (s : Sign) (o d c : ℕ) (r : Bool) → n ≡ a → s ≡ sign_of n → o ≡ told_ones (unsigned_abs n / one)
    → d ≡ fraction_of n / 10 ^ 103 → c ≡ (if d % 100 == 0 then 1 else d % 100) → c < 100 → d < 100000
    → r ≡ int_lt (pos (d / 100)) (with_sign s o -ℤ pos c) → r ≡ goes_on Down a
goes_on_down a n s o d c r same sign ones decimals count small low e = search (rules, last_of, down_few)
