-- A size from 10^10 up, one that would show as zero, and one that FIX shows.
use Rattle.std.proofs.Common.{◌-◌, ◌*◌, ◌^◌, ◌≤◌, arith, sym, ◌∙◌, rules}
use Rattle.h41_show.proofs.Fixed.{fixed_decimals-size, fixed_count-code, size_positive, size_below, size_above, is_fixed-shown}
use Rattle.h41_show.proofs.Fixed.{is_fixed-large, is_fixed-tiny, nearest_none}
use Rattle.h41_show.proofs.number.fixed.Goals as goal

pub returns-then-above_least-clause-fixed : goal.returns-then-above_least-clause-fixed
returns-then-above_least-clause-fixed c = search (rules, is_fixed-large, size_above)

pub returns-then-dropped-gt-DIGITS-clause-fixed : goal.returns-then-dropped-gt-DIGITS-clause-fixed
returns-then-dropped-gt-DIGITS-clause-fixed c =
    let d = c.args.x.mantissa.digits in
    let s = c.args.x.exponent.biased in
    let low = c.args.x.mantissa.at_least in
    let high = c.args.x.mantissa.below in
    let most : s ≤ 108 = omega arith in
    let count =
    fixed_count-code d s low high c.args.digits _ _ _ most c.steps-above_least.ensures
    c.saturating_sub.ensures c.fixed_decimals-decimals.ensures in
    let none = nearest_none d (108 - c.steps-above_least.result - c.fixed_decimals-decimals.result) high (omega arith) in
    sym (is_fixed-tiny c.args.digits (d * 10 ^ s) (size_positive d s low high) (size_below d s low high most) (sym count ∙ none))

pub returns-in-0-clause-fixed : goal.returns-in-0-clause-fixed
returns-in-0-clause-fixed c = search (rules, fixed_count-code, is_fixed-tiny, size_positive, size_below)

pub returns-in_default-clause-fixed : goal.returns-in_default-clause-fixed
returns-in_default-clause-fixed c = search (rules, fixed_count-code, is_fixed-shown, size_below)

pub returns-in_default-clause-decimals : goal.returns-in_default-clause-decimals
returns-in_default-clause-decimals c = search (rules, fixed_decimals-size)

pub returns-in_default-clause-count : goal.returns-in_default-clause-count
returns-in_default-clause-count c = search (rules, fixed_count-code)
