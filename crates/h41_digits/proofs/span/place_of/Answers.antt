use Rattle.std.proofs.Common.{◌≡◌, ◌^◌, ◌∙◌, ap, sym, arith, inl, inr}
use Rattle.std.proofs.lemmas.Bool.{cases_lt}
use Rattle.h41_digits.proofs.Spans.{shifted_places, same_place}
use Rattle.h41_digits.proofs.span.place_of.Goals as goal

pub returns-then-place-weight : goal.returns-then-place-weight
returns-then-place-weight c place small is =
    same_place _ _ (sym (shifted_places c.loop-place.place (omega arith)) ∙ c.if-place-weight.true ∙ is)

pub loop-place-preserved : goal.loop-place-preserved
loop-place-preserved c place below is = elim (cases_lt place c.loop-place.place) [
  | inl less ↦ c.loop-place.invariant place less is
  | inr here ↦
      let same : place ≡ c.loop-place.place = omega (arith, below) in
      c.if-place-weight.false
      (shifted_places c.loop-place.place (omega (arith, c.loop-place-test.true)) ∙ ap (λ n. 16 ^ n) (sym same) ∙ sym is)
]
