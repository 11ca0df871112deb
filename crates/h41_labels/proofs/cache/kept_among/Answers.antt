use Rattle.std.proofs.Common.{◌≡◌, ◌<◌, ◌∙◌, ap, arith, length, sym, None}
use Rattle.std.proofs.lemmas.List.{length-map}
use Rattle.h41_labels.specs.KeptAnswers.{is_same}
use Rattle.h41_labels.specs.declared.search.KeptAnswer.{KeptAnswer}
use Rattle.h41_labels.specs.private.Slots.{mark_beside}
use Rattle.h41_labels.proofs.Kept.{passed, passed_by_mark}
use Rattle.h41_labels.proofs.cache.kept_among.Goals as goal
use Rattle.h41_labels.proofs.cache.kept_among.Goals.{else-other-mark-via-then-other-mark+else-is, else-other-mark-via-else-other-mark}

pub loop-index-preserved : goal.loop-index-preserved
loop-index-preserved c =
    let search = c.args.search.now in
    let slots = c.args.slots.now in
    let marks = c.args.marks.now in
    let index = c.loop-index.index in
    let sizes : length marks ≡ length slots = ap length c.requires ∙ length-map slots mark_beside in
    let inside : index < length slots = omega (arith, sizes, c.loop-index-test.true) in
    c.loop-index.invariant
    ∙ elim c.else-other-mark.branch [
      | else-other-mark-via-then-other-mark+else-is w ↦
          passed search slots index w.index-slots-index.result inside w.index-slots-index.is
          (ap (λ (one : KeptAnswer). is_same search one.search) w.index-slots-index.is ∙ sym w.is.ensures ∙ w.if-is.false)
      | else-other-mark-via-else-other-mark w ↦
          passed_by_mark search slots marks index (record { search = search; answer = None }) inside c.requires
          (λ same. w.if-other-mark.false (same ∙ sym c.mark-mark.ensures))
    ]
