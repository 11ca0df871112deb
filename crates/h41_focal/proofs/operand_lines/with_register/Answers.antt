use Rattle.std.proofs.Common.{◌≡◌, Ok, Result, subst}
use Rattle.h41_focal.proofs.Apart.{register_found}
use Rattle.h41_positions.specs.LabelledMachine.{LabelledMachine}
use Rattle.h41_rows.specs.Operands.{Address, Meant, RegisterKind, meant_as}
use Rattle.h41_rows.specs.declared.fault.LineFault.{LineFault}
use Rattle.h41_focal.proofs.operand_lines.with_register.Goals as goal

pub returns-in-Ok-clause-keeps : goal.returns-in-Ok-clause-keeps
returns-in-Ok-clause-keeps g c =
    record {
      mark = c.use_register.ensures.keeps.mark;
      labels = c.use_register.ensures.keeps.labels;
      left = λ sound.
          let meant = c.register_of.ensures in
          c.use_register.ensures.keeps.left
          (register_found c.args.machine.now.ram.registers sound c.args.operand.now c.in-Ok.address c.requires.held
          (subst
          (λ (machine : LabelledMachine).
          ◌≡◌ {A = Result Meant LineFault} (Ok (Address c.in-Ok.address))
          (meant_as RegisterKind machine.ram.registers c.args.operand.now))
          c.machine.view_is (rw c.in-Ok.is at meant)))
          sound;
    }
