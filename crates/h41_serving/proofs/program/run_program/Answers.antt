use Rattle.std.proofs.Common.{map, string_bytes}
use Rattle.h41_serving.specs.Program.{with_own_name}
use Rattle.h41_serving.proofs.Programs.{answers_plainly}
use Rattle.h41_serving.proofs.program.run_program.Goals as goal

pub returns-in-Ok-clause-words : goal.returns-in-Ok-clause-words
returns-in-Ok-clause-words g c =
    let answered = rw c.as_slice.ensures.value at c.run_words.ensures.words in
    rw c.in-Ok.is answered

pub returns-in-Ok-clause-plainly : goal.returns-in-Ok-clause-plainly
returns-in-Ok-clause-plainly g c =
    let answered = rw c.as_slice.ensures.value at c.run_words.ensures.words in
    rw c.in-Ok.is
    (answers_plainly g.O.FnMut _ g.W.Sink g.E.Sink c.args.open_file.now c.run_words.new.open_file c.args.file.now c.run_words.new.file
    c.args.input.now c.run_words.new.input c.args.output.now c.run_words.new.output c.args.faults.now c.run_words.new.faults
    c.run_words.result (with_own_name (map string_bytes c.in-Ok.words.items)) answered)
