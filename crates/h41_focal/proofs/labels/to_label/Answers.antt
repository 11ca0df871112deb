use Rattle.std.proofs.Common.{◌≡◌, ap, None, rules, subst, ◌∙◌}
use Rattle.h41_focal.proofs.RowApplied.{opened_row}
use Rattle.h41_positions.specs.LabelledMachine.{LabelledMachine, machine_of, local_search}
use Rattle.h41_focal.specs.private.Arrivals.{from_of}
use Rattle.h41_focal.specs.private.Carrying.{LineFails}
use Rattle.h41_positions.specs.FocalState.{Machine, machine_with}
use Rattle.h41_labels.specs.KeptAnswers.{KeepsSearch}
use Rattle.h41_positions.specs.Positions.{LocalFrom}
use Rattle.h41_rows.specs.LineRows.{to_label}
use Rattle.h41_rows.specs.declared.fault.LineFault.TheVariants.{Nonexistent}
use Rattle.h41_focal.proofs.LabelsMet.{label_found, label_lost}
use Rattle.h41_focal.proofs.labels.to_label.Goals as goal
use Rattle.h41_focal.proofs.labels.to_label.Goals.{in-Program, in-Typed}

pub returns-in-Some-clause-done : goal.returns-in-Some-clause-done
returns-in-Some-clause-done g c = λ named.
    let origin_is : c.match-origin.origin ≡ c.args.origin =
    elim c.match-origin.branch [ in-Program w ↦ search rules | in-Typed w ↦ search rules ] in
    let from_is : c.match-origin.from ≡ from_of c.args.origin c.machine.inside.focal.state.position =
    elim c.match-origin.branch [ in-Program w ↦ search rules | in-Typed w ↦ search rules ] in
    rw (c.arrive.ensures.state, c.local.ensures.state, origin_is)
    (opened_row c.args.pages.now _ (to_label c.args.branch c.args.label) named _ _ _ _ (ap machine_of c.machine.view_is)
    (label_found c.args.pages.now c.args.origin c.args.branch c.args.label named
    (machine_with c.machine.inside.ram.registers c.machine.inside.focal.state) c.in-Some.position c.arrive.result
    (let found = c.local.ensures.found in rw (c.in-Some.is, from_is) at found)
    (let answer = c.arrive.ensures.answer in rw origin_is at answer)))

pub returns-in-Some-clause-kept : goal.returns-in-Some-clause-kept
returns-in-Some-clause-kept g c =
    let from_is : c.match-origin.from ≡ from_of c.args.origin c.machine.inside.focal.state.position =
    elim c.match-origin.branch [ in-Program w ↦ search rules | in-Typed w ↦ search rules ] in
    let kept = c.local.ensures.kept in
    record {
      asks =
          subst
          (λ (machine : LabelledMachine). KeepsSearch machine.ram.registers
          (local_search (from_of c.args.origin machine.focal.state.position) c.args.label) machine.focal.labels c.arrive.new.focal.labels)
          c.machine.view_is (rw c.arrive.ensures.labels (rw from_is at kept));
      mark = search rules;
      left = search rules;
    }

pub returns-in-None-clause-done : goal.returns-in-None-clause-done
returns-in-None-clause-done g c = λ named.
    let origin_is : c.match-origin.origin ≡ c.args.origin =
    elim c.match-origin.branch [ in-Program w ↦ search rules | in-Typed w ↦ search rules ] in
    let from_is : c.match-origin.from ≡ from_of c.args.origin c.machine.inside.focal.state.position =
    elim c.match-origin.branch [ in-Program w ↦ search rules | in-Typed w ↦ search rules ] in
    let found = c.local.ensures.found in
    let lost = rw (c.in-None.is, from_is) at found in
    let same : machine_with c.machine.inside.ram.registers c.local.new.self.state ≡ machine_of c.args.machine.now =
    ap (machine_with c.machine.inside.ram.registers) c.local.ensures.state ∙ ap machine_of c.machine.view_is in
    label_lost c.args.pages.now c.args.origin c.args.branch c.args.label named _ _ _
    (subst (λ (machine : Machine). LocalFrom c.args.label c.args.pages.now machine.memory (from_of c.args.origin machine.focal.position)
    None)
    (ap machine_of c.machine.view_is) lost)
    (subst (λ (machine : Machine). LineFails c.args.origin Nonexistent machine (machine_of c.fail.new.machine) c.fail.result) same
    (let fails = c.fail.ensures.done in rw origin_is at fails))

pub returns-in-None-clause-kept : goal.returns-in-None-clause-kept
returns-in-None-clause-kept g c =
    let from_is : c.match-origin.from ≡ from_of c.args.origin c.machine.inside.focal.state.position =
    elim c.match-origin.branch [ in-Program w ↦ search rules | in-Typed w ↦ search rules ] in
    let kept = c.local.ensures.kept in
    record {
      asks =
          subst
          (λ (machine : LabelledMachine). KeepsSearch machine.ram.registers
          (local_search (from_of c.args.origin machine.focal.state.position) c.args.label) machine.focal.labels
          c.fail.new.machine.focal.labels)
          c.machine.view_is (rw c.fail.ensures.keeps.labels (rw from_is at kept));
      mark = search rules;
      left = search rules;
    }
