use Rattle.std.proofs.Common.{◌≡◌, ℕ, List, None, arith, ap, sym, ◌∙◌, subst}
use Rattle.std.proofs.lemmas.Result.{IfOk-weaker}
use Rattle.h41_asm.specs.Faults.{assembly_fault, first_fault, label_address, numbered_lines, own_fault_at}
use Rattle.h41_asm.specs.private.KeptLines.{Said, SaidSpell, said_faults, said_from}
use Rattle.h41_asm.specs.private.LabelTable.{IsReady, labels_in}
use Rattle.h41_asm.specs.Placing.{Labels}
use Rattle.h41_asm.specs.SourceLines.{source_lines}
use Rattle.h41_asm.proofs.Assembled.{assembles_by, fault_by_labels, ready_by}
use Rattle.h41_asm.proofs.Keeping.{faults_said, ready_said, spelled_said}
use Rattle.h41_asm.proofs.Walks.{reference_faults_of}
use Rattle.h41_asm.proofs.assembler.assemble.Goals as goal

pub spell-requires-clause-length : goal.spell-requires-clause-length
spell-requires-clause-length c = rw (c.deref.ensures.value, c.deref-2.ensures.value) c.in_ok-place.ensures.kept.length

pub spell-requires-clause-ready : goal.spell-requires-clause-ready
spell-requires-clause-ready c =
    let placed = c.in_ok-place.ensures in
    let labels : Labels = labels_in c.place.new.labels in
    let all = source_lines c.args.text.now in
    rw (c.deref.ensures.value, c.deref-2.ensures.value, placed.kept.said)
    (ready_said labels 1 c.args.origin all (ready_by labels c.args.text.now c.args.origin placed.ok placed.labels))

pub returns-clause-words : goal.returns-clause-words
returns-clause-words c =
    let placed = c.in_ok-place.ensures in
    let labels : Labels = labels_in c.place.new.labels in
    let all = source_lines c.args.text.now in
    let ready : IsReady labels c.args.origin all = ready_by labels c.args.text.now c.args.origin placed.ok placed.labels in
    IfOk-weaker c.spell.result _ _ (λ words spelled.
    assembles_by labels c.args.text.now c.args.origin words.items (omega arith) placed.ok placed.labels
    (spelled_said labels 1 c.args.origin all words.items ready
    (subst (λ said. SaidSpell labels c.args.origin said words.items) placed.kept.said spelled)))
    (rw (c.deref.ensures.value, c.deref-2.ensures.value) at c.spell.ensures.words)

-- The first error of the stored lines is that of the source.
fault_of : (labels : Labels) (source : List ℕ) (origin : ℕ) (said : List Said) → said ≡ said_from 1 (source_lines source)
    → first_fault own_fault_at (numbered_lines origin (source_lines source)) ≡ None
    → ((name : List ℕ) → labels name ≡ label_address (numbered_lines origin (source_lines source)) name)
    → said_faults labels origin said ≡ assembly_fault source origin
fault_of labels source origin said kept none same =
    ap (said_faults labels origin) kept ∙ sym (faults_said labels 1 origin (source_lines source))
    ∙ sym (reference_faults_of labels origin (source_lines source)) ∙ sym (fault_by_labels labels source origin none same)

pub returns-clause-ok : goal.returns-clause-ok
returns-clause-ok c =
    let placed = c.in_ok-place.ensures in
    rw (← fault_of (labels_in c.place.new.labels) c.args.text.now c.args.origin _ placed.kept.said placed.ok placed.labels)
    (rw (c.deref.ensures.value, c.deref-2.ensures.value) at c.spell.ensures.ok)

pub returns-clause-err : goal.returns-clause-err
returns-clause-err c =
    let placed = c.in_ok-place.ensures in
    rw (← fault_of (labels_in c.place.new.labels) c.args.text.now c.args.origin _ placed.kept.said placed.ok placed.labels)
    (rw (c.deref.ensures.value, c.deref-2.ensures.value) at c.spell.ensures.err)
