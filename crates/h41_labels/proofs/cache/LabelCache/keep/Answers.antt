use Rattle.std.proofs.Common.{◌≡◌, ◌+◌, ◌%◌, ap, length, set, sym, ◌∙◌}
use Rattle.std.proofs.lemmas.Bool.{eqb-true}
use Rattle.h41_labels.specs.declared.search.KeptAnswer.{KeptAnswer}
use Rattle.h41_labels.specs.private.Slots.{in_turn}
use Rattle.h41_labels.proofs.Slots.{in_place, put_in_slot, ring_turned, same_ring}
use Rattle.h41_labels.proofs.cache.LabelCache.keep.Goals as goal

pub invariant_of-self : goal.invariant_of-self
invariant_of-self c =
    let slots = c.self.inside.slots.items in
    let marks = c.self.inside.marks.items in
    let oldest = c.self.inside.oldest in
    let kept : KeptAnswer = record { search = c.args.search; answer = c.args.answer } in
    let full : length slots ≡ 64 = eqb-true (length slots) 64 (sym c.is_full.ensures.value ∙ c.if-is_full.true) in
    let marked =
    in_place marks c.deref_mut-then-is_full.result.now oldest c.mark-mark.result c.deref_mut-then-is_full.ensures.value
    ∙ ap (set marks oldest) c.mark-mark.ensures in
    same_ring _ _ _ _ _ (in_place slots c.deref_mut.result.now oldest kept c.deref_mut.ensures.value) marked
    (ring_turned slots marks oldest kept c.self.invariant full)

pub returns-then-is_full : goal.returns-then-is_full
returns-then-is_full c =
    let slots = c.self.inside.slots.items in
    let oldest = c.self.inside.oldest in
    let full : length slots ≡ 64 = eqb-true (length slots) 64 (sym c.is_full.ensures.value ∙ c.if-is_full.true) in
    ap (in_turn ((oldest + 1) % 64)) (in_place slots c.deref_mut.result.now oldest _ c.deref_mut.ensures.value)
    ∙ put_in_slot c.args.search c.args.answer slots c.args.self.now oldest full c.self.invariant.inside c.self.view_is
