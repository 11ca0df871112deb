use Rattle.h41_refusals.specs.declared.fault.Fault.TheVariants.{ReadFault}
use Rattle.h41_serving.specs.Causes.{cause_line}
use Rattle.h41_serving.specs.Statuses.{fault_line}
use Rattle.h41_serving.proofs.Reported.{tells_both}
use Rattle.h41_serving.proofs.program.tell_unopened.Goals as goal

pub returns-clause-line : goal.returns-clause-line
returns-clause-line g c =
    let said = c.tell_cause.ensures in (
      said.0,
      tells_both g.E.Sink c.args.faults.now c.tell-status.new.faults c.tell_cause.new.faults (fault_line ReadFault)
          (cause_line c.args.file.now said.0) c.tell-status.ensures.line said.1,
    )
