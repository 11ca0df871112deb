use Rattle.std.proofs.Common.{ap, refl, subst, sym, Ok, Err, None, rules, ◌∙◌}
use Rattle.std.proofs.lemmas.Result.{err_from_is_err_and}
use Rattle.h41_codes.specs.declared.line.Line.TheVariants.{Number}
use Rattle.h41_focal.proofs.Begun.{refuses, takes}
use Rattle.h41_focal.proofs.OutsideCalls.{carries_whole}
use Rattle.h41_focal.proofs.machine.Machine.step_long.Goals as goal
use Rattle.h41_focal.specs.LineStep.{Stands}
use Rattle.h41_focal.specs.MachineCalls.{Steps}
use Rattle.h41_focal.specs.OutsideCalls.{CarriesLine}
use Rattle.h41_focal.specs.OutsideCalls as sources
use Rattle.h41_focal.specs.declared.origin.Origin.TheVariants.{Program}
use Rattle.h41_positions.specs.FocalState.{Machine}
use Rattle.h41_positions.specs.LabelledMachine.{LabelledMachine, machine_of}

pub returns-in-Some : goal.returns-in-Some
returns-in-Some g c =
    let found = c.in-Some.ensures.some c.args.pages.now in
    let begun = c.begin in
    let keeps = c.number_line.ensures.keeps in
    let done = c.number_line.ensures.done found.0 (c.number_register-register.ensures found.0 found.2) 0 c.args.pages.now in
    record {
      line =
          subst (λ (machine : Machine). Steps c.args.pages.now machine (machine_of c.number_line.new.machine) (Ok c.number_line.result))
          (ap machine_of begun.ensures.begun) (
            Ok (Number found.0, c.in-Some.next),
            subst (λ (machine : Machine). Stands c.args.pages.now machine (Ok (Number found.0, c.in-Some.next)))
                (sym (ap machine_of begun.ensures.begun)) found.1,
            carries_whole c.args.pages.now (Program c.in-Some.next) (Number found.0) (machine_of begun.new.self)
                (machine_of c.number_line.new.machine) (Ok c.number_line.result) done,
          );
      unchanged = tt;
      kept = (
        Ok (Number found.0, c.in-Some.next),
        found.1,
        keeps.labels ∙ ap (λ (m : LabelledMachine). m.focal.labels) begun.ensures.begun,
      );
      mark = search rules;
      clear = search rules;
      right =
          c.kept_answers_stay_right.ensures.searching begun.new.self c.number_line.new.machine None begun.ensures.right
          keeps.labels keeps.mark;
    }

pub returns-in_err-line : goal.returns-in_err-line
returns-in_err-line g c =
    let refused = err_from_is_err_and c.from_residual.result c.from_residual.ensures.1 in
    let refuses = refuses c.args.pages.now c.args.self.now c.begin-2.new.self _ c.begin-2.ensures.begun c.in_err-line.ensures in
    rw (refused.1, refused.2)
    (record {
      line =
          subst (λ (machine : Machine). CarriesLine sources.Program c.args.pages.now machine (Err c.in_err-line.field-0.0))
          (ap machine_of c.begin-2.ensures.begun)
          (Err c.in_err-line.field-0.0, c.in_err-line.ensures, refl);
      unchanged = refuses.unchanged;
      kept = refuses.kept;
      mark = refuses.mark;
      clear = refuses.clear;
      right = λ clear. c.begin-2.ensures.right;
    })

pub returns : goal.returns
returns g c =
    let takes =
    takes c.args.pages.now c.args.self.now c.begin-2.new.self c.carry_out.new.machine c.in_ok-line.line c.in_ok-line.next
    c.carry_out.result c.begin-2.ensures.begun c.in_ok-line.ensures c.carry_out.ensures.unchanged c.carry_out.ensures.kept in
    record {
      line =
          subst (λ (machine : Machine). Steps c.args.pages.now machine (machine_of c.carry_out.new.machine) c.carry_out.result)
          (ap machine_of c.begin-2.ensures.begun)
          (Ok (c.in_ok-line.line, c.in_ok-line.next), c.in_ok-line.ensures, c.carry_out.ensures.taken);
      unchanged = takes.unchanged;
      kept = takes.kept;
      mark = takes.mark;
      clear = takes.clear;
      right =
          c.kept_answers_stay_right.ensures.searching c.begin-2.new.self c.carry_out.new.machine _ c.begin-2.ensures.right
          c.carry_out.ensures.kept.asks c.carry_out.ensures.kept.mark;
    }
