use Rattle.std.proofs.Common.{◌∙◌}
use Rattle.h41_numbers.proofs.NumberParts.{places_within, places_past}
use Rattle.h41_numbers.proofs.number.decimal_places.Goals as goal

pub returns-then-point-mantissa-clause-value : goal.returns-then-point-mantissa-clause-value
returns-then-point-mantissa-clause-value c =
    c.saturating_sub.ensures ∙ places_within c.args.mantissa.now c.point_place-point.result c.args.count c.first_digits.result.count
    c.point_place-point.ensures.place c.if-point-mantissa.true c.requires c.first_digits.ensures.count

pub returns-else-point-mantissa-clause-value : goal.returns-else-point-mantissa-clause-value
returns-else-point-mantissa-clause-value c =
    places_past c.args.mantissa.now c.point_place-point.result c.args.count c.point_place-point.ensures.place c.if-point-mantissa.false
