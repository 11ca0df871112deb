-- The first digit of a negative exponent is 9.
use Rattle.std.proofs.Common.{◌≡◌, ◌+◌, ◌-◌, ◌*◌, ◌<◌, Some, None, true, false, ap, ◌∙◌, arith}
use Rattle.std.specs.Prelude.{nat_le, if◌then◌else◌}
use Rattle.std.proofs.lemmas.Bool.Decides.{nat_tests}
use Rattle.h41_decimal.proofs.PackedDigits.{packed_behind}
use Rattle.h41_decimal.proofs.register.packed_exponent.Goals as goal

pub returns-then-steps-lt99-clause-digits : goal.returns-then-steps-lt99-clause-digits
returns-then-steps-lt99-clause-digits c =
    let steps = c.from-steps.result in
    let less : steps < 99 = c.if-steps-lt99.true in
    let digits = 100 * 9 + (steps + 1) in
    let large : nat_le digits 99 ≡ false = grind (arith, nat_tests) in
    let negative : nat_le 901 digits ≡ true = grind (arith, nat_tests) in
    let value : digits - 901 ≡ c.args.exponent.biased = omega (arith, c.from-steps.ensures) in (
      digits,
      ap (λ b. if b then Some (digits + 99) else if nat_le 901 digits then Some (digits - 901) else None) large
          ∙ ap (λ b. if b then Some (digits - 901) else None) negative ∙ ap Some value,
      omega arith,
      packed_behind 9 (steps + 1) c.packed_pair.result (omega arith) (omega arith) c.packed_pair.ensures.digits,
    )
