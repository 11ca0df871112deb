use Rattle.std.proofs.Common.{ap}
use Rattle.h41_positions.specs.LabelledMachine.{machine_of}
use Rattle.h41_focal.proofs.LabelsMet.{goes_back, goes_to_line_00}
use Rattle.h41_positions.specs.FocalState.{machine_with}
use Rattle.h41_focal.specs.declared.machine.Machine.TheInside.{Inside}
use Rattle.h41_focal.proofs.labels.go_back.Goals as goal

pub returns-in-Program-clause-done : goal.returns-in-Program-clause-done
returns-in-Program-clause-done g c = λ named.
    rw c.in-Program.is
    (goes_back c.args.pages.now (machine_of c.args.machine.now) (machine_of c.return_from.new.machine) c.return_from.result
    c.in-Program.field-0
    named c.return_from.ensures.done)

pub returns-in-Typed-clause-done : goal.returns-in-Typed-clause-done
returns-in-Typed-clause-done g c = λ named.
    rw (c.in-Typed.is, c.halt_at.ensures.state, ← (ap machine_of c.machine.view_is))
    (goes_to_line_00 c.args.pages.now (machine_with c.machine.inside.ram.registers c.machine.inside.focal.state) c.start_of-start.result
    named
    (let found = c.start_of-start.ensures in
    rw (
      ap (λ (inside : Inside g.row.REGS). inside.ram.registers) c.machine-inside.view_is,
      ap (λ (inside : Inside g.row.REGS). inside.focal.state.position) c.machine-inside.view_is,
    ) at found))
