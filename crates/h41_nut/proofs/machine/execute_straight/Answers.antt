use Rattle.std.proofs.Common.{arith, rules}
use Rattle.h41_nut.proofs.Rows.{ran_within, within_marks, ends_nowhere}
use Rattle.h41_nut.proofs.machine.execute_straight.Goals as goal
use Rattle.h41_nut.specs.WordStep.{nut_of}

pub returns-in_default : goal.returns-in_default
returns-in_default g c =
    let ran = c.execute_within.ensures in
    record {
      change = ran_within c.args.row _ _ _ _ _ _ (search rules) ran;
      mark = search rules;
      marked =
          within_marks c.args.row (nut_of c.args.cpu.now c.args.ram.now.registers c.args.pages.now c.args.keys.now)
          c.args.ram.now c.execute_within.result (search rules);
      end = ends_nowhere _ _ _ _ _ c.requires.held (omega arith) (ran c.args.ram.now.registers c.args.pages.now);
    }
