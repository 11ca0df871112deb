use Rattle.std.proofs.Common.{length, arith, ap}
use Rattle.std.proofs.lemmas.List.{take_rest}
use Rattle.h41_commands.proofs.ProgramTextLines.{texts_at, texts_last}
use Rattle.h41_commands.proofs.blocks.program_text.TextsIterator.next.Goals as goal

pub returns-in-Some-clause-steps : goal.returns-in-Some-clause-steps
returns-in-Some-clause-steps c =
    let first = texts_at c.args.self.now.rest.now c.in-Some.end c.in-Some.ensures in
    rw c.if-self.false (simp take_rest first)

pub returns-in-Some-clause-goes : goal.returns-in-Some-clause-goes
returns-in-Some-clause-goes c =
    record { on = λ _. (tt, tt, omega (arith, ap length (returns-in-Some-clause-steps c))); keeps = tt; rests = λ _. tt }

pub returns-in-None-clause-steps : goal.returns-in-None-clause-steps
returns-in-None-clause-steps c = rw c.if-self.false (texts_last c.args.self.now.rest.now c.in-None.ensures)

pub returns-in-None-clause-goes : goal.returns-in-None-clause-goes
returns-in-None-clause-goes c =
    record { on = λ _. (tt, tt, omega (arith, ap length (returns-in-None-clause-steps c))); keeps = tt; rests = λ _. tt }
