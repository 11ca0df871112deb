use Rattle.std.proofs.Common.{ap, refl}
use Rattle.h41_focal.proofs.stack_lines.move_registers.Goals as goal
use Rattle.h41_rows.specs.Places.{LastX, Y}
use Rattle.h41_ram.specs.RamState.{RamState}
use Rattle.h41_ram.specs.RegisterMap.{zeros}

pub returns-in-Exchange-clause-change : goal.returns-in-Exchange-clause-change
returns-in-Exchange-clause-change g c = λ named. rw c.in-Exchange.is (zeros, refl, c.exchange.ensures.change named Y zeros refl)

pub returns-in-RollUp-clause-change : goal.returns-in-RollUp-clause-change
returns-in-RollUp-clause-change g c = λ named. rw c.in-RollUp.is (zeros, refl, c.roll_up.ensures.change zeros named)

pub returns-in-RollDown-clause-change : goal.returns-in-RollDown-clause-change
returns-in-RollDown-clause-change g c = λ named. rw c.in-RollDown.is (zeros, refl, c.roll_down.ensures.change zeros named)

pub returns-in-LastX-clause-change : goal.returns-in-LastX-clause-change
returns-in-LastX-clause-change g c = λ named. rw c.in-LastX.is (zeros, refl, c.bring_in_from.ensures.change named LastX zeros refl)

pub returns-in-Enter-clause-change : goal.returns-in-Enter-clause-change
returns-in-Enter-clause-change g c = λ named. rw c.in-Enter.is (zeros, refl, c.enter.ensures.change zeros named)

pub returns-in-Pi-clause-change : goal.returns-in-Pi-clause-change
returns-in-Pi-clause-change g c = λ named. rw c.in-Pi.is (c.pi.result, c.pi.ensures _ named, c.bring_in.ensures.change named)

pub returns-in-ClearStack-clause-change : goal.returns-in-ClearStack-clause-change
returns-in-ClearStack-clause-change g c = λ named. rw c.in-ClearStack.is
    (c.zero.result, c.zero.ensures _ named, c.clear_stack.ensures.change named)

pub returns-in-ClearX-clause-change : goal.returns-in-ClearX-clause-change
returns-in-ClearX-clause-change g c =
    λ named. rw c.in-ClearX.is (
      c.zero-in-ClearX.result,
      c.zero-in-ClearX.ensures _ named,
      (ap (λ (ram : RamState). ram.registers) c.set_status_register.ensures.written),
    )
