use Rattle.std.proofs.Common.{ap, is_some, sym, ◌∙◌}
use Rattle.h41_serving.proofs.Faults.{fault_alone, fault_said, no_silence, no_word}
use Rattle.h41_serving.proofs.program.serve_named.Goals as goal

pub returns-in-Some : goal.returns-in-Some
returns-in-Some g c =
    let served = c.serve-status.ensures in
    let set = sym c.error.ensures.failed ∙ ap is_some c.in-Some.is in
    let three = served.reader set in record {
      ends = served.status;
      text = served.text;
      flushed = served.flushed;
      outcome = served.outcome;
      silent = λ few. no_silence three few;
      mistake = λ two. no_word three two;
      reader = served.reader;
      writer = served.writer;
      partial = served.partial;
      within = served.bound;
      unread = served.unread;
      cut = served.cut;
      passed = served.passed;
      fault = λ is.
          fault_said _ g.W.Sink g.E.Sink c.args.reader.now c.serve-status.new.reader c.args.output.now c.serve-status.new.writer
          c.args.faults.now c.serve-status.new.faults c.tell_cause.new.faults c.serve-status.result c.args.job (served.fault is) set
          c.tell_cause.ensures;
    }

pub returns-in-None : goal.returns-in-None
returns-in-None g c =
    let served = c.serve-status.ensures in
    let unset = sym c.error.ensures.failed ∙ ap is_some c.in-None.is in record {
      ends = served.status;
      text = served.text;
      flushed = served.flushed;
      outcome = served.outcome;
      silent = served.silent;
      mistake = served.mistake;
      reader = served.reader;
      writer = served.writer;
      partial = served.partial;
      within = served.bound;
      unread = served.unread;
      cut = served.cut;
      passed = served.passed;
      fault = λ is.
          fault_alone _ g.W.Sink g.E.Sink c.args.reader.now c.serve-status.new.reader c.args.output.now c.serve-status.new.writer
          c.args.faults.now c.serve-status.new.faults c.serve-status.result c.args.job (served.fault is) unset;
    }
