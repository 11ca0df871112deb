use Rattle.std.proofs.Common.{◌≡◌, ◌∙◌, ◌<◌, rules, arith}
use Rattle.h41_fields.specs.Field.{active_place}
use Rattle.h41_fields.proofs.Spans.{IsSpanOf, span_at_pointer, span_p_to_q, span_p_to_last, span_of_other}
use Rattle.h41_fields.proofs.places.pointed_places.Goals as goal
use Rattle.h41_fields.proofs.places.pointed_places.Goals.{in-P, in-Q}
use Rattle.h41_fields.specs.declared.field.Pointer.TheVariants.{P, Q}

-- The pointer in the code is the active one, and is inside the register.
pointed : (c : goal.In-AtPointer) → c.match-active.pointer ≡ active_place c.args.p c.args.q c.args.active
pointed c = elim c.match-active.branch [ in-P w ↦ search rules | in-Q w ↦ search rules ]

small : (c : goal.In-AtPointer) → active_place c.args.p c.args.q c.args.active < 14
small c = elim c.args.active as (λ active. active_place c.args.p c.args.q active < 14) [
  | P ↦ c.requires.p_in_register
  | Q ↦ c.requires.q_in_register
]

at_pointer : (c : goal.In-AtPointer) → IsSpanOf c.args.field c.args.p c.args.q c.args.active c.match-active.pointer c.match-active.pointer
at_pointer c = rw (c.in-AtPointer.is, pointed c) (span_at_pointer _ _ _ (small c))

pub returns-in-AtPointer-clause-first : goal.returns-in-AtPointer-clause-first
returns-in-AtPointer-clause-first c = (at_pointer c).first

pub returns-in-AtPointer-clause-last : goal.returns-in-AtPointer-clause-last
returns-in-AtPointer-clause-last c = (at_pointer c).last

pub returns-in-AtPointer-clause-each : goal.returns-in-AtPointer-clause-each
returns-in-AtPointer-clause-each c = (at_pointer c).each

to_last : (c : goal.Then-p-q) → IsSpanOf c.args.field c.args.p c.args.q c.args.active c.args.p 13
to_last c = rw c.in-PToQ.is (span_p_to_last _ _ _ c.if-p-q.true c.requires.p_in_register)

pub returns-then-p-q-clause-first : goal.returns-then-p-q-clause-first
returns-then-p-q-clause-first c = (to_last c).first

pub returns-then-p-q-clause-last : goal.returns-then-p-q-clause-last
returns-then-p-q-clause-last c = (to_last c).last

pub returns-then-p-q-clause-each : goal.returns-then-p-q-clause-each
returns-then-p-q-clause-each c = (to_last c).each

to_q : (c : goal.Else-p-q) → IsSpanOf c.args.field c.args.p c.args.q c.args.active c.args.p c.args.q
to_q c = rw c.in-PToQ.is (span_p_to_q _ _ _ c.if-p-q.false c.requires.q_in_register)

pub returns-else-p-q-clause-first : goal.returns-else-p-q-clause-first
returns-else-p-q-clause-first c = (to_q c).first

pub returns-else-p-q-clause-last : goal.returns-else-p-q-clause-last
returns-else-p-q-clause-last c = (to_q c).last

pub returns-else-p-q-clause-each : goal.returns-else-p-q-clause-each
returns-else-p-q-clause-each c = (to_q c).each

pub returns-in_default : goal.returns-in_default
returns-in_default c =
    let pointer : c.match-active.pointer ≡ active_place c.args.p c.args.q c.args.active =
    elim c.match-active.branch [ in-P w ↦ search rules | in-Q w ↦ search rules ] in
    let inside : active_place c.args.p c.args.q c.args.active < 14 = elim
    c.args.active as (λ active. active_place c.args.p c.args.q active < 14) [
      | P ↦ c.requires.p_in_register
      | Q ↦ c.requires.q_in_register
    ] in
    let is =
    span_of_other c.args.field c.args.p c.args.q c.args.active inside c.requires.pointed c.in_default.not-AtPointer c.in_default.not-PToQ in
    record {
      first = is.first;
      last = pointer ∙ is.last;
      each = rw pointer is.each;
      ordered = omega arith;
      in_register = omega (arith, pointer, inside);
    }
