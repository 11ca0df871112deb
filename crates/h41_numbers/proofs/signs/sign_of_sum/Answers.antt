use Rattle.std.proofs.Common.{◌≡◌, ap, ◌∙◌, arith}
use Rattle.std.specs.Prelude.{◌+ℤ◌, ◌-ℤ◌}
use Rattle.std.proofs.lemmas.Int.{ints}
use Rattle.h41_decimal.specs.Signs.{sign_of}
use Rattle.h41_decimal.specs.Units.{units}
use Rattle.h41_numbers.proofs.signs.sign_of_sum.Goals as goal

pub returns : goal.returns
returns c =
    let e : units c.args.first -ℤ units c.negated.result ≡ units c.args.first +ℤ units c.args.second =
    omega (arith, ints, c.negated.ensures) in
    c.sign_of_difference.ensures ∙ ap sign_of e
