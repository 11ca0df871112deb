use Rattle.std.proofs.Common.{map, refl, string_bytes}
use Rattle.h41_serving.specs.Program.{with_own_name}
use Rattle.h41_serving.proofs.Programs.{answers_ending, answers_job}
use Rattle.h41_serving.proofs.program.run_words.Goals as goal

pub returns-in-Ok-read_words-clause-words : goal.returns-in-Ok-read_words-clause-words
returns-in-Ok-read_words-clause-words g c =
    let named = rw c.as_slice.ensures.value at c.in-Ok-read_words.ensures in
    let asked = rw c.in-Ok.ensures at named in
    answers_job g.O.FnMut _ g.W.Sink g.E.Sink c.args.open_file.now c.run_job.new.open_file c.args.file.now c.run_job.new.file
    c.args.input.now c.run_job.new.input c.args.output.now c.run_job.new.output c.args.faults.now c.run_job.new.faults c.run_job.result
    (with_own_name (map string_bytes c.args.words.now)) c.in-Ok-read_words.job asked.refused asked.job c.run_job.ensures

pub returns-clause-words : goal.returns-clause-words
returns-clause-words g c =
    let named = rw c.as_slice.ensures.value at c.in-Err.ensures in
    let asked = rw c.in-Ok.ensures at named in
    answers_ending g.O.FnMut _ g.W.Sink g.E.Sink c.args.open_file.now c.args.open_file.now c.args.file.now c.args.file.now
    c.args.input.now c.args.input.now c.args.output.now c.end.new.output c.args.faults.now c.end.new.faults c.end.result
    (with_own_name (map string_bytes c.args.words.now)) c.in-Err.ending asked.refused asked.job asked.option
    (record { unopened = refl; kept = refl; unread = refl }) c.end.ensures
