use Rattle.std.proofs.Common.{ap, rules, subst}
use Rattle.h41_focal.proofs.LinesTaken.{number_stands}
use Rattle.h41_focal.proofs.short_lines.number_standing.Goals as goal
use Rattle.h41_positions.specs.LabelledMachine.{machine_of}
use Rattle.h41_positions.specs.FocalState.{Machine, machine_with}
use Rattle.h41_focal.specs.private.Carrying.{StandsNumber}
use Rattle.h41_positions.specs.declared.position.Position.TheVariants.{Memory}

pub returns-in-Some-clause-some : goal.returns-in-Some-clause-some
returns-in-Some-clause-some g c = λ pages.
    subst (λ (machine : Machine). StandsNumber pages machine c.in-Some.number (Memory c.in-Some.next)) (ap machine_of c.machine.view_is)
    (number_stands pages (machine_with c.machine.inside.ram.registers c.machine.inside.focal.state) c.in-Memory.at c.in-Some.number
    c.in-Some.next (search rules) (search rules) c.in-Some.ensures.some)
