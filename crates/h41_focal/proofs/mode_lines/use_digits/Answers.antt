use Rattle.std.proofs.Common.{ap, refl}
use Rattle.h41_positions.specs.LabelledMachine.{machine_of}
use Rattle.h41_focal.proofs.RowDone.{row_done}
use Rattle.h41_focal.specs.private.Works.{digits_use_row}
use Rattle.h41_focal.specs.declared.uses.DigitsUse.TheVariants as digits
use Rattle.h41_focal.specs.declared.outcome.LineOutcome.TheVariants as outcomes
use Rattle.h41_ram.specs.RegisterMap.{zeros}
use Rattle.h41_focal.proofs.mode_lines.use_digits.Goals as goal

pub returns-in-Format-clause-done : goal.returns-in-Format-clause-done
returns-in-Format-clause-done g c = λ named.
    rw c.in-Format.is
    (row_done _ (digits_use_row (digits.Format c.in-Format.fixed c.in-Format.engineering) c.args.digits)
    named _ _ _ zeros outcomes.Done _ _ (ap machine_of c.machine.view_is) refl refl refl
    c.set_format.ensures.change c.go_on_lifting.ensures.state)

pub returns-in-Tone-clause-done : goal.returns-in-Tone-clause-done
returns-in-Tone-clause-done g c = λ named.
    rw c.in-Tone.is
    (row_done _ (digits_use_row digits.Tone c.args.digits) named _ _ _ zeros
    outcomes.Done _ _ (ap machine_of c.machine.view_is) refl refl refl
    refl c.go_on_lifting-in-Tone.ensures.state)
