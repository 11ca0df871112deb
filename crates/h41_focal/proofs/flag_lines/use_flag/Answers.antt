use Rattle.std.proofs.Common.{ap, refl}
use Rattle.h41_positions.specs.LabelledMachine.{machine_of}
use Rattle.h41_focal.proofs.RowDone.{row_done}
use Rattle.h41_focal.specs.private.Works.{flag_use_row}
use Rattle.h41_focal.specs.declared.uses.FlagUse.TheVariants as flags
use Rattle.h41_focal.specs.declared.outcome.LineOutcome.TheVariants as outcomes
use Rattle.h41_ram.specs.RegisterMap.{zeros}
use Rattle.h41_ram.specs.RamState.{RamState}
use Rattle.h41_focal.proofs.flag_lines.use_flag.Goals as goal

pub returns-in-Change-clause-carried : goal.returns-in-Change-clause-carried
returns-in-Change-clause-carried g c = λ named.
    rw c.in-Change.is
    (row_done _ (flag_use_row (flags.Change c.in-Change.on) c.args.flag) named _ _ _
    zeros outcomes.Done _ _ (ap machine_of c.machine.view_is) refl refl
    refl (rw ((ap (λ (ram : RamState). ram.registers) c.set_flag.ensures.written), c.from.ensures) refl) c.go_on_lifting.ensures.state
    c.args.pages.now)

pub returns-in-Ask-clause-carried : goal.returns-in-Ask-clause-carried
returns-in-Ask-clause-carried g c = λ named. rw c.in-Ask.is (c.ask_flag.ensures.carried named)

pub returns-in-AskAndClear-clause-carried : goal.returns-in-AskAndClear-clause-carried
returns-in-AskAndClear-clause-carried g c = λ named. rw c.in-AskAndClear.is (c.ask_and_clear_flag.ensures.carried named)
