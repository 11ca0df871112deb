use Rattle.std.proofs.Common.{IfNone, IfSome, None, Ok, Option, Some, ap, rules, subst}
use Rattle.h41_codes.specs.ShortLines.{line_of}
use Rattle.h41_focal.proofs.LinesTaken.{no_short_stands, short_stands}
use Rattle.h41_focal.specs.private.Carrying.{StandsNoShort}
use Rattle.h41_focal.proofs.short_lines.short_standing.Goals as goal
use Rattle.h41_positions.specs.LabelledMachine.{machine_of}
use Rattle.h41_focal.specs.LineStep.{Stands}
use Rattle.h41_positions.specs.FocalState.{Machine, machine_with}

pub returns-clause-some : goal.returns-clause-some
returns-clause-some g c =
    let machine = machine_with c.machine.inside.ram.registers c.machine.inside.focal.state in
    subst (λ (of : Machine). IfSome c.short_line.result (λ found. Stands c.args.pages.now of (Ok (line_of found.0, found.1))))
    (ap machine_of c.machine.view_is)
    (short_stands c.args.pages.now machine.memory machine.focal.position c.short_line.result (search rules) (search rules))

unless : {A : Type 0} (found : Option A) (P Q : Type 0) → IfNone found P → IfNone found (Q → P)
unless None P Q none = λ q. none
unless (Some x) P Q none = none

pub returns-clause-none : goal.returns-clause-none
returns-clause-none g c =
    let machine = machine_with c.machine.inside.ram.registers c.machine.inside.focal.state in
    unless c.short_line.result (StandsNoShort c.args.pages.now (machine_of c.args.machine.now)) _
    (subst (λ (of : Machine). IfNone c.short_line.result (StandsNoShort c.args.pages.now of)) (ap machine_of c.machine.view_is)
    (no_short_stands c.args.pages.now machine c.short_line.result (search rules)))
