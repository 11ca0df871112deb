use Rattle.std.proofs.Common.{◌≡◌, ◌∙◌, ℕ, List, Some, None, ap, drop, map, sym, take}
use Rattle.std.proofs.lemmas.List.{take_rest}
use Rattle.h41_labels.specs.KeptAnswers.{answer_of}
use Rattle.h41_labels.specs.declared.search.KeptAnswer.{KeptAnswer}
use Rattle.h41_labels.specs.private.Slots.{mark_beside}
use Rattle.h41_labels.proofs.Kept.{answer_of-back, answer_of-front}
use Rattle.h41_labels.proofs.Slots.{before_marked, behind_marked}
use Rattle.h41_labels.proofs.cache.LabelCache.kept.Goals as goal

-- A part of the slots and the same part of the keys belong together.
same_marks : (slots shown : List KeptAnswer) (marks shown_marks : List ℕ) → marks ≡ map mark_beside slots → shown ≡ slots
    → shown_marks ≡ marks → shown_marks ≡ map mark_beside shown
same_marks slots shown marks shown_marks marked same too = too ∙ marked ∙ ap (map mark_beside) (sym same)

pub kept_among-requires : goal.kept_among-requires
kept_among-requires c =
    behind_marked c.as_slice-slots.result.now c.as_slice-marks.result.now c.self.inside.oldest
    (same_marks _ _ _ _ c.self.invariant.marked c.as_slice-slots.ensures.value c.as_slice-marks.ensures.value)

pub kept_among-requires-in-None : goal.kept_among-requires-in-None
kept_among-requires-in-None c =
    before_marked c.as_slice-slots.result.now c.as_slice-marks.result.now c.self.inside.oldest
    (same_marks _ _ _ _ c.self.invariant.marked c.as_slice-slots.ensures.value c.as_slice-marks.ensures.value)

pub returns-in-Some-clause-value : goal.returns-in-Some-clause-value
returns-in-Some-clause-value c =
    let search = c.args.search.now in
    let slots = c.self.inside.slots.items in
    let oldest = c.self.inside.oldest in
    let behind = take_rest c.as_slice-slots.result.now oldest ∙ ap (drop oldest) c.as_slice-slots.ensures.value in
    let is : answer_of search (drop oldest slots) ≡ Some c.in-Some.answer = sym (c.in-Some.ensures ∙ ap (answer_of search) behind) in
    sym (answer_of-front search (drop oldest slots) (take oldest slots) c.in-Some.answer is) ∙ ap (answer_of search) c.self.view_is

pub returns-in-None-clause-value : goal.returns-in-None-clause-value
returns-in-None-clause-value c =
    let search = c.args.search.now in
    let slots = c.self.inside.slots.items in
    let oldest = c.self.inside.oldest in
    let behind = take_rest c.as_slice-slots.result.now oldest ∙ ap (drop oldest) c.as_slice-slots.ensures.value in
    let none : answer_of search (drop oldest slots) ≡ None = sym (c.in-None.ensures ∙ ap (answer_of search) behind) in
    c.kept_among-in-None.ensures ∙ ap (λ (shown : List KeptAnswer). answer_of search (take oldest shown)) c.as_slice-slots.ensures.value
    ∙ sym (answer_of-back search (drop oldest slots) (take oldest slots) none) ∙ ap (answer_of search) c.self.view_is
