use Rattle.std.proofs.Common.{◌≡◌, ◌∙◌, refl}
use Rattle.h41_fields.specs.declared.field.Field.TheVariants.{AtPointer, SignAndExponent, ToPointer, All, PToQ, ExponentSign, Mantissa}
use Rattle.h41_fields.specs.declared.field.Field.TheVariants.{MantissaSign}
use Rattle.h41_fields.proofs.Spans.{IsSpanOf, span_of_all, span_sign_and_exponent, span_exponent_sign, span_mantissa, span_mantissa_sign}
use Rattle.h41_fields.proofs.places.span.Goals as goal
use Rattle.h41_fields.proofs.places.span.Goals.{then-mask-eq0, else-mask-eq0}

spanned : (c : goal.After-result-1) → IsSpanOf c.args.field c.args.p c.args.q c.args.active c.if-mask-eq0.result.0 c.if-mask-eq0.result.1.0
spanned c = elim c.if-mask-eq0.branch [
  | then-mask-eq0 w ↦
      let pointed = w.pointed_places-lo.ensures in
      let first = w.new.ensures.first in
      let last = w.new.ensures.last in
      rw w.result-is (record { first = first ∙ pointed.first; last = last ∙ pointed.last; each = rw (first, last) pointed.each })
  | else-mask-eq0 w ↦
      (elim c.args.field as (λ field.
      c.args.field ≡ field → IsSpanOf c.args.field c.args.p c.args.q c.args.active c.if-mask-eq0.result.0 c.if-mask-eq0.result.1.0) [
        | AtPointer ↦ λ is. absurd ((rw is at w.if-mask-eq0.false) refl)
        | SignAndExponent ↦ λ is. rw (w.result-is, is) (span_sign_and_exponent _ _ _)
        | ToPointer ↦ λ is. absurd ((rw is at w.if-mask-eq0.false) refl)
        | All ↦ λ is. rw (w.result-is, is) (span_of_all _ _ _)
        | PToQ ↦ λ is. absurd ((rw is at w.if-mask-eq0.false) refl)
        | ExponentSign ↦ λ is. rw (w.result-is, is) (span_exponent_sign _ _ _)
        | Mantissa ↦ λ is. rw (w.result-is, is) (span_mantissa _ _ _)
        | MantissaSign ↦ λ is. rw (w.result-is, is) (span_mantissa_sign _ _ _)
      ]) refl
]

pub returns-clause-first : goal.returns-clause-first
returns-clause-first c = (spanned c).first

pub returns-clause-last : goal.returns-clause-last
returns-clause-last c = (spanned c).last

pub returns-clause-each : goal.returns-clause-each
returns-clause-each c = (spanned c).each
