use Rattle.std.proofs.Common.{◌≡◌, ◌/◌, ◌%◌, ◌^◌, ap, subst, ◌∙◌, arith, rules}
use Rattle.std.specs.Prelude.{ℤ, ◌==◌, if◌then◌else◌}
use Rattle.h41_decimal.specs.NearestDecimal.{Nearest}
use Rattle.h41_decimal.specs.Units.{one, size, units}
use Rattle.h41_rows.specs.private.Counting.{count_in}
use Rattle.h41_rows.proofs.Counts.{counts_ones, counts_whole, few_ones, fraction_size, rest_size}
use Rattle.h41_rows.proofs.counters.counted_by_parts.Goals as goal

pub stepped-requires-clause-few_ones : goal.stepped-requires-clause-few_ones
stepped-requires-clause-few_ones c =
    let a = c.in-Nonzero in
    let same = rest_size c.args.number c.fraction.result a.field-0 a.fraction c.fraction.ensures a.is in
    let small = few_ones c.args.number a.fraction same in
    let low = c.in-Some.ensures.ones.not_above in
    omega (arith, low, small)

pub returns-in-Zero : goal.returns-in-Zero
returns-in-Zero c = search (rules, fraction_size, counts_whole)

pub returns-in-Some : goal.returns-in-Some
returns-in-Some c =
    let a = c.in-Nonzero in
    let z = units c.args.number in
    let same = rest_size c.args.number c.fraction.result a.field-0 a.fraction c.fraction.ensures a.is in
    let small : size a.fraction % one ≡ size a.fraction = omega (arith, same) in
    let counts : c.increment-count.result ≡ count_in (size a.fraction) =
    c.increment-count.ensures.value
    ∙ ap (λ t. if t % 100 == 0 then 1 else t % 100) (c.five_digits.ensures.value ∙ ap (λ t. t / 10 ^ 103) small) in
    subst (λ (t : ℤ). Nearest t 1 c.stepped.result)
    (counts_ones z c.sign.result c.args.direction c.in-Some.ones c.increment-count.result
    (size a.fraction) c.sign.ensures c.in-Some.ensures.ones counts same)
    c.stepped.ensures

pub returns-in-None : goal.returns-in-None
returns-in-None c =
    let a = c.in-Nonzero in
    let same = rest_size c.args.number c.fraction.result a.field-0 a.fraction c.fraction.ensures a.is in
    let small = few_ones c.args.number a.fraction same in
    let many = c.in-None.ensures.many in
    absurd (omega (arith, many, small))
