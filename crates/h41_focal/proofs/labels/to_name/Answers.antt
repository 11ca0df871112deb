use Rattle.std.proofs.Common.{◌≡◌, ap, Err, None, Ok, OnErr, Result, Some, rules, subst, sym, ◌∙◌}
use Rattle.std.specs.Prelude.{IsTrue}
use Rattle.h41_codes.specs.declared.functions.Branch.TheVariants.{GoTo}
use Rattle.h41_focal.proofs.LabelsMet.{name_found, name_lost, name_sought}
use Rattle.h41_focal.proofs.OutsideCalls.{row_carries_whole}
use Rattle.h41_focal.proofs.RowApplied.{opened_row}
use Rattle.h41_focal.proofs.labels.to_name.Goals as goal
use Rattle.h41_focal.specs.declared.outcome.LineOutcome.{LineOutcome}
use Rattle.h41_focal.specs.declared.refusal.FocalRefusal.{FocalRefusal}
use Rattle.h41_focal.specs.private.Carrying.{CallsNamed, LineFails}
use Rattle.h41_labels.specs.KeptAnswers.{KeepsSearch}
use Rattle.h41_labels.specs.declared.search.Search.TheVariants.{Global}
use Rattle.h41_positions.specs.FocalState.{Machine, machine_with}
use Rattle.h41_positions.specs.LabelledMachine.{LabelledMachine, machine_of}
use Rattle.h41_program.specs.ProgramLines.{AnswersOf}
use Rattle.h41_program.specs.Searches.{named_in, position_of}
use Rattle.h41_ram.specs.RegisterMap.{is_sound}
use Rattle.h41_rows.specs.LineRows.{to_name}
use Rattle.h41_rows.specs.declared.fault.LineFault.TheVariants.{Nonexistent}

pub returns-in-Some-default-clause-done : goal.returns-in-Some-default-clause-done
returns-in-Some-default-clause-done g c = λ named.
    rw (c.arrive.ensures.state, c.global.ensures.state)
    (row_carries_whole c.args.pages.now c.args.origin (to_name c.args.branch c.args.name) named (machine_of c.args.machine.now) _
    (Ok c.arrive.result)
    (opened_row c.args.pages.now _ (to_name c.args.branch c.args.name) named _ _ _ _ (ap machine_of c.machine.view_is)
    (name_found c.args.pages.now c.args.origin c.args.branch c.args.name named
    (machine_with c.machine.inside.ram.registers c.machine.inside.focal.state) c.in-Some-default.byte c.arrive.result
    (let found = c.global.ensures.found in rw c.in-Some-default.is-0 at found) c.arrive.ensures.answer)))

pub returns-in-Some-default-clause-kept : goal.returns-in-Some-default-clause-kept
returns-in-Some-default-clause-kept g c =
    record {
      asks =
          subst
          (λ (machine : LabelledMachine). KeepsSearch machine.ram.registers (Some (Global c.args.name)) machine.focal.labels
          c.arrive.new.focal.labels)
          c.machine.view_is (rw c.arrive.ensures.labels c.global.ensures.kept);
      mark = search rules;
      left = search rules;
    }

pub returns-in-None-GoTo-clause-done : goal.returns-in-None-GoTo-clause-done
returns-in-None-GoTo-clause-done g c = λ named.
    let found = c.global.ensures.found in
    let lost = rw c.in-None-GoTo.is-0 at found in
    let same : machine_with c.machine.inside.ram.registers c.global.new.self.state ≡ machine_of c.args.machine.now =
    ap (machine_with c.machine.inside.ram.registers) c.global.ensures.state ∙ ap machine_of c.machine.view_is in
    rw c.in-None-GoTo.is-1
    (row_carries_whole c.args.pages.now c.args.origin (to_name GoTo c.args.name) named (machine_of c.args.machine.now)
    (machine_of c.fail.new.machine) (Ok c.fail.result)
    (name_lost c.args.pages.now c.args.origin c.args.name named _ _ _
    (subst (λ (machine : Machine). AnswersOf (λ lines. position_of (named_in c.args.name lines)) machine.memory 0 None)
    (ap machine_of c.machine.view_is) lost)
    (subst (λ (machine : Machine). LineFails c.args.origin Nonexistent machine (machine_of c.fail.new.machine) c.fail.result) same
    c.fail.ensures.done)))

pub returns-in-None-GoTo-clause-kept : goal.returns-in-None-GoTo-clause-kept
returns-in-None-GoTo-clause-kept g c =
    record {
      asks =
          subst
          (λ (machine : LabelledMachine). KeepsSearch machine.ram.registers (Some (Global c.args.name)) machine.focal.labels
          c.fail.new.machine.focal.labels)
          c.machine.view_is (rw c.fail.ensures.keeps.labels c.global.ensures.kept);
      mark = search rules;
      left = search rules;
    }

pub returns-in-None-Execute-clause-done : goal.returns-in-None-Execute-clause-done
returns-in-None-Execute-clause-done g c = λ named.
    let found = c.global.ensures.found in
    let lost = rw c.in-None-Execute.is-0 at found in
    let same : machine_with c.machine.inside.ram.registers c.global.new.self.state ≡ machine_of c.args.machine.now =
    ap (machine_with c.machine.inside.ram.registers) c.global.ensures.state ∙ ap machine_of c.machine.view_is in
    let done = c.call_named.ensures.done in
    let called = rw c.characters.ensures.value at done in
    rw c.in-None-Execute.is-1
    (name_sought c.args.pages.now c.args.origin c.args.name named (machine_of c.args.machine.now) (machine_of c.call_named.new.machine)
    c.call_named.result
    (subst (λ (machine : Machine). AnswersOf (λ lines. position_of (named_in c.args.name lines)) machine.memory 0 None)
    (ap machine_of c.machine.view_is) lost)
    (subst
    (λ (machine : Machine). CallsNamed c.args.pages.now c.args.origin c.args.name machine (machine_of c.call_named.new.machine)
    c.call_named.result)
    same called))

-- A refused function leaves the machine as it was.
refused : (result : Result LineOutcome FocalRefusal) (old middle new : LabelledMachine) → machine_of middle ≡ machine_of old
    → OnErr result (new ≡ middle) → OnErr result (machine_of new ≡ machine_of old)
refused (Ok outcome) old middle new same stays = tt
refused (Err refusal) old middle new same stays = ap machine_of stays ∙ same

pub returns-in-None-Execute-clause-unchanged : goal.returns-in-None-Execute-clause-unchanged
returns-in-None-Execute-clause-unchanged g c =
    refused c.call_named.result c.args.machine.now _ c.call_named.new.machine
    (ap (machine_with c.machine.inside.ram.registers) c.global.ensures.state ∙ ap machine_of c.machine.view_is)
    c.call_named.ensures.unchanged

pub returns-in-None-Execute-clause-kept : goal.returns-in-None-Execute-clause-kept
returns-in-None-Execute-clause-kept g c =
    record {
      asks =
          subst
          (λ (machine : LabelledMachine). KeepsSearch machine.ram.registers (Some (Global c.args.name)) machine.focal.labels
          c.call_named.new.machine.focal.labels)
          c.machine.view_is (rw c.call_named.ensures.keeps.labels c.global.ensures.kept);
      mark = search rules;
      left = search rules;
    }

pub call_named-requires : goal.call_named-requires
call_named-requires g c = (
  search rules,
  subst (λ (machine : LabelledMachine). IsTrue (is_sound machine.ram.registers)) (sym c.machine.view_is) c.requires.sound,
)
