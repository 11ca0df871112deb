-- The table has each byte.
use Rattle.std.proofs.Common.{◌≡◌, ℕ, ◌≤◌, ◌<◌, Bool, true, refl, ◌∙◌, ap, arith, eqb, get_or, Option, Some, None}
use Rattle.std.specs.Prelude.{◌&&◌, nat_lt}
use Rattle.std.proofs.lemmas.Bool.{and_parts, eqb-true}
use Rattle.std.proofs.lemmas.Bool.Decides.{nat_tests}
use Rattle.h41_decimal.specs.private.PackedDigits.{decimal_of}
use Rattle.h41_decimal.specs.declared.register.TheConstants.{UNPACKED_PAIRS}
use Rattle.h41_decimal.proofs.Tables.{each, each_holds}
use Rattle.h41_decimal.proofs.register.unpacked_pair.Goals as goal

-- The possible values of the table for a byte: its number, which is below 100, or 255 for none.
told : ℕ → Option ℕ → Bool
told number (Some told_one) = eqb number told_one && nat_lt told_one 100
told number None = eqb number 255

tabled : ℕ → Bool
tabled byte = told (get_or UNPACKED_PAIRS byte 0) (decimal_of 2 byte)

all_tabled : each tabled 256 ≡ true
unfolding each tabled told
all_tabled = refl

some_told : (number : ℕ) (digits : Option ℕ) → told number digits ≡ true → number < 100 → Some number ≡ digits
unfolding told
some_told number (Some one) is small = ap Some (eqb-true number one (and_parts (eqb number one) (nat_lt one 100) is).0)
some_told number None is small = absurd (omega (arith, eqb-true number 255 is))

none_told : (number : ℕ) (digits : Option ℕ) → told number digits ≡ true → 100 ≤ number → None ≡ digits
unfolding told
none_told number (Some one) is large =
    let parts = and_parts (eqb number one) (nat_lt one 100) is in
    let small : one < 100 = grind (arith, nat_tests, parts) in
    absurd (omega (arith, eqb-true number one parts.0))
none_told number None is large = refl

there : (index byte : ℕ) → index ≡ byte → get_or UNPACKED_PAIRS index 0 ≡ get_or UNPACKED_PAIRS byte 0
there index byte same = ap (λ n. get_or UNPACKED_PAIRS n 0) same

pub returns-then-number-lt100-clause-value : goal.returns-then-number-lt100-clause-value
unfolding tabled
returns-then-number-lt100-clause-value c =
    let is_there = there c.from.result c.args.byte c.from.ensures in
    let is = each_holds tabled 256 c.args.byte all_tabled (omega (arith, c.ranges.byte)) in
    ap Some is_there ∙ some_told _ _ is (rw is_there at c.if-number-lt100.true)

pub returns-else-number-lt100-clause-value : goal.returns-else-number-lt100-clause-value
unfolding tabled
returns-else-number-lt100-clause-value c =
    let is_there = there c.from.result c.args.byte c.from.ensures in
    let is = each_holds tabled 256 c.args.byte all_tabled (omega (arith, c.ranges.byte)) in
    none_told _ _ is (rw is_there at c.if-number-lt100.false)
