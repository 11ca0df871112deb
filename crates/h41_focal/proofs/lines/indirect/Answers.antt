use Rattle.std.proofs.Common.{ap, ◌≡◌, true, false, Ok, Err, Result, refl, rules, subst}
use Rattle.h41_codes.specs.declared.line.Line.TheVariants.{BranchIndirect}
use Rattle.h41_positions.specs.LabelledMachine.{machine_of}
use Rattle.h41_focal.proofs.OutsideCalls.{carries_whole}
use Rattle.h41_focal.proofs.Targets.{target_taken}
use Rattle.h41_focal.specs.declared.refusal.FocalRefusal.TheVariants.{NotInProfile}
use Rattle.h41_positions.specs.FocalState.{Machine}
use Rattle.h41_rows.specs.Computing.{meant_by}
use Rattle.h41_rows.specs.Operands.{Meant, meant_of}
use Rattle.h41_rows.specs.Profile.{is_parameter_left_out}
use Rattle.h41_rows.specs.declared.fault.LineFault.{LineFault}
use Rattle.h41_focal.proofs.lines.indirect.Goals as goal

pub returns-in-Ok-clause-taken : goal.returns-in-Ok-clause-taken
returns-in-Ok-clause-taken g c =
    let held : is_parameter_left_out c.args.register ≡ false = search rules in
    let found = c.branch_target.ensures in
    target_taken c.args.pages.now c.args.origin c.args.branch c.args.register c.in-Ok.target (machine_of c.args.machine.now)
    (machine_of c.to_target.new.machine)
    c.to_target.result held
    (subst
    (λ (machine : Machine).
    ◌≡◌ {A = Result Meant LineFault} (Ok (meant_by c.in-Ok.target))
    (meant_of machine.memory (BranchIndirect c.args.branch c.args.register)))
    (ap machine_of c.machine.view_is) (rw c.in-Ok.is at found))
    c.to_target.ensures.done

pub returns-then-is_parameter_out-clause-taken : goal.returns-then-is_parameter_out-clause-taken
returns-then-is_parameter_out-clause-taken g c =
    let out : is_parameter_left_out c.args.register ≡ true = search rules in (Err NotInProfile, rw out refl, refl)

pub returns-in-Err-clause-taken : goal.returns-in-Err-clause-taken
returns-in-Err-clause-taken g c =
    let held : is_parameter_left_out c.args.register ≡ false = search rules in
    let found = c.branch_target.ensures in
    let own = machine_of c.args.machine.now in
    carries_whole c.args.pages.now c.args.origin (BranchIndirect c.args.branch c.args.register) own (machine_of c.fail.new.machine)
    (Ok c.fail.result)
    (let meant : ◌≡◌ {A = Result Meant LineFault} (Err c.in-Err.fault)
    (meant_of own.memory (BranchIndirect c.args.branch c.args.register)) =
    subst
    (λ (machine : Machine).
    ◌≡◌ {A = Result Meant LineFault} (Err c.in-Err.fault) (meant_of machine.memory (BranchIndirect c.args.branch c.args.register)))
    (ap machine_of c.machine.view_is) (rw c.in-Err.is at found) in
    rw (held, ← meant)
    c.fail.ensures.done)
