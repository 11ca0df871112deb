use Rattle.std.proofs.Common.{Ok}
use Rattle.h41_codes.specs.declared.line.Line.TheVariants as lines
use Rattle.h41_rows.specs.Profile.{is_left_out}
use Rattle.h41_focal.proofs.Begun.{same_machine}
use Rattle.h41_focal.proofs.LinesTaken.{out_kept, rest_kept}
use Rattle.h41_focal.proofs.OutsideCalls.{called_module, carries_whole}
use Rattle.h41_positions.specs.LabelledMachine.{machine_of}
use Rattle.h41_focal.proofs.short_lines.carry_short.Goals as goal

pub returns-in-LocalLabel : goal.returns-in-LocalLabel
returns-in-LocalLabel g c =
    rw c.in-LocalLabel.is
    (record {
      taken =
          carries_whole c.args.pages.now c.args.origin (lines.LocalLabel c.in-LocalLabel.field-0)
          (machine_of c.args.machine.now) (machine_of c.be_silent.new.machine)
          (Ok c.be_silent.result) (c.be_silent.ensures.done 0 c.args.pages.now);
      unchanged = tt;
      kept = rest_kept _ _ c.be_silent.ensures.keeps;
    })

pub returns-in-Register : goal.returns-in-Register
returns-in-Register g c =
    rw c.in-Register.is
    (record {
      taken =
          carries_whole c.args.pages.now c.args.origin (lines.Register c.in-Register.function c.in-Register.register)
          (machine_of c.args.machine.now) (machine_of c.short.new.machine)
          c.short.result (c.short.ensures.taken c.args.pages.now);
      unchanged = same_machine c.args.machine.now c.short.new.machine c.short.result c.short.ensures.unchanged;
      kept = rest_kept _ _ c.short.ensures.keeps;
    })

pub returns-in-Plain : goal.returns-in-Plain
returns-in-Plain g c =
    rw c.in-Plain.is
    (record {
      taken =
          carries_whole c.args.pages.now c.args.origin (lines.Plain c.in-Plain.function)
          (machine_of c.args.machine.now) (machine_of c.plain_at_once.new.machine)
          c.plain_at_once.result (c.plain_at_once.ensures.taken);
      unchanged = same_machine c.args.machine.now c.plain_at_once.new.machine c.plain_at_once.result c.plain_at_once.ensures.unchanged;
      kept = out_kept (is_left_out (lines.Plain c.in-Plain.function)) _ _ c.plain_at_once.ensures.keeps;
    })

pub returns-in-WithOperand : goal.returns-in-WithOperand
returns-in-WithOperand g c =
    rw c.in-WithOperand.is
    (record {
      taken =
          carries_whole c.args.pages.now c.args.origin (lines.WithOperand c.in-WithOperand.function c.in-WithOperand.operand)
          (machine_of c.args.machine.now) (machine_of c.operand_line.new.machine)
          c.operand_line.result (c.operand_line.ensures.taken);
      unchanged = same_machine c.args.machine.now c.operand_line.new.machine c.operand_line.result c.operand_line.ensures.unchanged;
      kept = out_kept (is_left_out (lines.WithOperand c.in-WithOperand.function c.in-WithOperand.operand)) _ _ c.operand_line.ensures.keeps;
    })

pub returns-in-Module : goal.returns-in-Module
returns-in-Module g c =
    let done = c.module_line.ensures.done in
    rw c.in-Module.is
    (record {
      taken =
          called_module c.args.pages.now c.args.origin c.in-Module.number c.in-Module.entry (machine_of c.args.machine.now)
          (machine_of c.module_line.new.machine) c.module_line.result done;
      unchanged = tt;
      kept = rest_kept _ _ c.module_line.ensures.keeps;
    })

pub returns-in-BranchIndirect : goal.returns-in-BranchIndirect
returns-in-BranchIndirect g c =
    rw c.in-BranchIndirect.is
    (record {
      taken = c.indirect_line.ensures.taken;
      unchanged = c.indirect_line.ensures.unchanged;
      kept = c.indirect_line.ensures.kept;
    })

pub returns-in-ShortGoTo : goal.returns-in-ShortGoTo
returns-in-ShortGoTo g c =
    let taken = c.to_label.ensures.done 0 in
    let done = rw (c.new-label.ensures, c.number.ensures.value) at taken in
    let kept = c.to_label.ensures.kept in
    rw c.in-ShortGoTo.is
    (record {
      taken =
          carries_whole c.args.pages.now c.args.origin (lines.ShortGoTo c.in-ShortGoTo.label c.in-ShortGoTo.field-1)
          (machine_of c.args.machine.now) (machine_of c.to_label.new.machine) (Ok c.to_label.result) done;
      unchanged = tt;
      kept = rw (c.new-label.ensures, c.number.ensures.value) at kept;
    })

pub returns-in-BranchTo : goal.returns-in-BranchTo
returns-in-BranchTo g c =
    rw c.in-BranchTo.is
    (record {
      taken =
          carries_whole c.args.pages.now c.args.origin
          (lines.BranchTo c.in-BranchTo.branch c.in-BranchTo.field-1 c.in-BranchTo.field-2 c.in-BranchTo.label)
          (machine_of c.args.machine.now) (machine_of c.to_label-in-BranchTo.new.machine)
          (Ok c.to_label-in-BranchTo.result) (c.to_label-in-BranchTo.ensures.done 0);
      unchanged = tt;
      kept = c.to_label-in-BranchTo.ensures.kept;
    })
