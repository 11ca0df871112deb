use Rattle.std.proofs.Common.{ap, not, refl, ◌∙◌}
use Rattle.h41_digits.proofs.Packed.{weight_positive}
use Rattle.h41_arith.proofs.Compared.{different_by_number}
use Rattle.h41_arith.proofs.InPlace.{in_place-eq}
use Rattle.h41_arith.proofs.comparisons.differs.Goals as goal

pub returns : goal.returns
returns c =
    let span = c.args.span in
    let first = c.in_span.ensures in
    let second = c.in_span-2.ensures in
    ap not (in_place-eq _ _ _ _ _ (weight_positive span.lo) first.digits second.digits)
    ∙ different_by_number c.args.x c.args.y span.lo span.hi _ _ first.register second.register span.ordered span.in_register refl refl
