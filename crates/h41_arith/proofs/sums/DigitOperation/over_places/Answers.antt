use Rattle.std.proofs.Common.{◌≡◌, ◌+◌, ◌<◌, ◌≢◌, length, arith, subst, ◌∙◌, rules}
use Rattle.std.proofs.lemmas.List.{get_or-set_other}
use Rattle.h41_arith.specs.DigitRule.{carry_digit}
use Rattle.h41_arith.specs.private.DigitOperations.{rule_of}
use Rattle.h41_arith.proofs.Carries.{CarriedTo, carried_none, carried_more, carried_all, carry_le}
use Rattle.h41_arith.proofs.sums.DigitOperation.over_places.Goals as goal

pub loop-place-init : goal.loop-place-init
loop-place-init c = search (rules, carried_none)

pub loop-place-preserved : goal.loop-place-preserved
loop-place-preserved c =
    let at = c.loop-place.place in
    let changed = c.set.ensures.changed in
    let inside : at < length c.loop-place.digits = omega (arith, c.set.ensures.from.size, c.requires.in_register) in
    let rule = c.digit-digit.ensures.rule in
    let step =
    carried_more (rule_of c.args.self 10) c.args.x c.args.y (carry_digit c.args.carry_in)
    c.args.lo at c.loop-place.digits (carry_digit c.loop-place.carry)
    c.digit-digit.result.0 (carry_digit c.digit-digit.result.1) inside c.loop-place.auto.place c.loop-place.invariant.carried
    (rw (← c.get.ensures.digit, ← c.get-in-loop-place.ensures.digit) rule) in record {
      carried = rw changed step;
      below =
          λ place low.
          let other : place ≢ at =
          omega arith in
          rw changed
          (get_or-set_other c.loop-place.digits at place c.digit-digit.result.0 0 other ∙ c.loop-place.invariant.below place low);
      above =
          λ place high.
          let other : place ≢ at =
          omega arith in
          rw changed
          (get_or-set_other c.loop-place.digits at place c.digit-digit.result.0 0 other ∙ c.loop-place.invariant.above place (omega arith));
      registers = λ h. (c.set.ensures.register, c.get.ensures.register, c.get-in-loop-place.ensures.register);
    }

pub returns-clause-result : goal.returns-clause-result
returns-clause-result c =
    let past : c.loop-place.place ≡ c.args.hi + 1 = omega (arith, c.requires.ordered) in
    let done =
    subst (λ next. CarriedTo (rule_of c.args.self 10) c.args.x c.args.y (carry_digit c.args.carry_in)
    c.args.lo next c.loop-place.digits (carry_digit c.loop-place.carry))
    past c.loop-place.invariant.carried in
    record {
      register = (c.loop-place.invariant.registers (omega (arith, c.requires.ordered))).0;
      digits =
          carried_all (rule_of c.args.self 10) c.args.x c.args.y (carry_digit c.args.carry_in) c.args.lo
          c.args.hi c.loop-place.digits (carry_digit c.loop-place.carry) (carry_le c.args.carry_in) done;
      outside = record { below = c.loop-place.invariant.below; above = λ place high. c.loop-place.invariant.above place (omega arith) };
    }
