use Rattle.std.proofs.lemmas.Result.{err_from_is_err_and}
use Rattle.h41_jobs.specs.Texts.{IsNotRefused, ListingEnds, ListingText}
use Rattle.h41_serving.proofs.TaskInputs.{not_written, written_whole}
use Rattle.h41_serving.proofs.inputs.list_words.Goals as goal

pub returns-in_err-write_answer : goal.returns-in_err-write_answer
returns-in_err-write_answer g c =
    let from = err_from_is_err_and c.from_residual-in_err-write_answer.result c.from_residual-in_err-write_answer.ensures.1 in
    let made = rw c.deref.ensures.value at c.in_ok-answer.ensures in
    let read = c.in_ok-words.ensures in
    rw (from.1, from.2)
    (not_written ListingText ListingEnds IsNotRefused g.R.Source g.W.Sink
    c.args.reader.now c.read_input.new.reader c.args.writer.now c.write_answer.new.writer c.in_ok-words.words.items
    c.in_ok-answer.answer.text.items read.bytes made.text (read.clear (λ is. cc)) read.within c.in_err-write_answer.ensures.front
    c.in_err-write_answer.ensures.mark)

pub returns : goal.returns
returns g c =
    let made = rw c.deref.ensures.value at c.in_ok-answer.ensures in
    let read = c.in_ok-words.ensures in
    let written = c.in_ok-write_answer.ensures in
    rw written.ended
    (written_whole ListingText ListingEnds IsNotRefused g.R.Source g.W.Sink
    c.args.reader.now c.read_input.new.reader c.args.writer.now c.write_answer.new.writer c.in_ok-words.words.items
    c.in_ok-answer.answer.text.items read.bytes made.text (read.clear (λ is. cc)) read.within c.in_ok-answer.answer.ended made.ends
    made.kind written.text written.flushed written.mark)
