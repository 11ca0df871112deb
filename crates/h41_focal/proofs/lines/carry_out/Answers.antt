use Rattle.std.proofs.Common.{◌≡◌, Ok, rules}
use Rattle.h41_codes.specs.ShortLines.{line_of}
use Rattle.h41_codes.specs.declared.line.Line.TheVariants as lines
use Rattle.h41_focal.proofs.LinesTaken.{rest_kept}
use Rattle.h41_focal.proofs.OutsideCalls.{carries_whole}
use Rattle.h41_positions.specs.LabelledMachine.{machine_of}
use Rattle.h41_focal.proofs.lines.carry_out.Goals as goal
use Rattle.h41_focal.proofs.lines.carry_out.Goals.{in-BranchIndirect, in-BranchTo, in-LocalLabel, in-Module, in-Plain, in-Register}
use Rattle.h41_focal.proofs.lines.carry_out.Goals.{in-ShortGoTo, in-WithOperand}

pub returns : goal.returns
returns g c =
    let same : line_of c.match-line.short ≡ c.args.line.now =
    elim c.match-line.branch [
      | in-LocalLabel w ↦ search rules
      | in-Register w ↦ search rules
      | in-Plain w ↦ search rules
      | in-WithOperand w ↦ search rules
      | in-Module w ↦ search rules
      | in-BranchIndirect w ↦ search rules
      | in-ShortGoTo w ↦ search rules
      | in-BranchTo w ↦ search rules
    ] in
    let taken = c.carry_short.ensures.taken in
    let kept = c.carry_short.ensures.kept in
    record {
      taken = rw same at taken;
      unchanged = c.carry_short.ensures.unchanged;
      kept = rw same at kept;
    }

pub returns-in-Null : goal.returns-in-Null
returns-in-Null g c =
    rw c.in-Null.is
    (record {
      taken =
          carries_whole c.args.pages.now c.args.origin lines.Null (machine_of c.args.machine.now) (machine_of c.do_nothing.new.machine)
          (Ok c.do_nothing.result) (c.do_nothing.ensures.done 0 c.args.pages.now);
      unchanged = tt;
      kept = rest_kept _ _ c.do_nothing.ensures.keeps;
    })

pub returns-in-GlobalLabel : goal.returns-in-GlobalLabel
returns-in-GlobalLabel g c =
    rw c.in-GlobalLabel.is
    (record {
      taken =
          carries_whole c.args.pages.now c.args.origin
          (lines.GlobalLabel c.in-GlobalLabel.field-0 c.in-GlobalLabel.field-1 c.in-GlobalLabel.field-2)
          (machine_of c.args.machine.now) (machine_of c.be_silent.new.machine)
          (Ok c.be_silent.result) (c.be_silent.ensures.done 0 c.args.pages.now);
      unchanged = tt;
      kept = rest_kept _ _ c.be_silent.ensures.keeps;
    })

pub returns-in-Number : goal.returns-in-Number
returns-in-Number g c =
    rw c.in-Number.is
    (record {
      taken =
          carries_whole c.args.pages.now c.args.origin (lines.Number c.in-Number.number)
          (machine_of c.args.machine.now) (machine_of c.number_line.new.machine)
          (Ok c.number_line.result) (c.number_line.ensures.done _ c.written.ensures 0 c.args.pages.now);
      unchanged = tt;
      kept = rest_kept _ _ c.number_line.ensures.keeps;
    })

pub returns-in-Named : goal.returns-in-Named
returns-in-Named g c =
    rw c.in-Named.is
    (record {
      taken = c.named.ensures.taken;
      unchanged = c.named.ensures.unchanged;
      kept = c.named.ensures.kept;
    })

pub returns-in-End : goal.returns-in-End
returns-in-End g c =
    rw c.in-End.is
    (record {
      taken =
          carries_whole c.args.pages.now c.args.origin (lines.End c.in-End.field-0 c.in-End.field-1)
          (machine_of c.args.machine.now) (machine_of c.go_back.new.machine)
          (Ok c.go_back.result) (c.go_back.ensures.done 0);
      unchanged = tt;
      kept = rest_kept _ _ c.go_back.ensures.keeps;
    })

pub returns-in-FinalEnd : goal.returns-in-FinalEnd
returns-in-FinalEnd g c =
    rw c.in-FinalEnd.is
    (record {
      taken =
          carries_whole c.args.pages.now c.args.origin (lines.FinalEnd c.in-FinalEnd.field-0 c.in-FinalEnd.field-1)
          (machine_of c.args.machine.now) (machine_of c.go_back-in-FinalEnd.new.machine)
          (Ok c.go_back-in-FinalEnd.result) (c.go_back-in-FinalEnd.ensures.done 0);
      unchanged = tt;
      kept = rest_kept _ _ c.go_back-in-FinalEnd.ensures.keeps;
    })

pub returns-in-Text : goal.returns-in-Text
returns-in-Text g c =
    rw c.in-Text.is
    (record {
      taken =
          carries_whole c.args.pages.now c.args.origin (lines.Text c.in-Text.text)
          (machine_of c.args.machine.now) (machine_of c.text_line.new.machine)
          (Ok c.text_line.result) (c.text_line.ensures.done 0 c.args.pages.now);
      unchanged = tt;
      kept = rest_kept _ _ c.text_line.ensures.keeps;
    })
