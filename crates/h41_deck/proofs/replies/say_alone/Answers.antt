use Rattle.h41_commands.specs.Items.{Spelled}
use Rattle.h41_commands.specs.declared.commands.Command.TheVariants as commands
use Rattle.h41_deck.specs.private.Writing.{LeavesText, RepliesInPart, SaysText}
use Rattle.h41_deck.proofs.SaidAlone.{alone_is, nothing_said, part_said}
use Rattle.std.proofs.Common.{ap, ◌∙◌, refl, rules}
use Rattle.std.proofs.lemmas.Result.{err_from_is_err_and}
use Rattle.h41_xrom.specs.Calculator.{CalculatorState}
use Rattle.h41_deck.proofs.Commanded.{list_said, part_alone, silent_alone}
use Rattle.h41_deck.proofs.replies.say_alone.Goals as goal

pub returns-in_err-say_made-in-List : goal.returns-in_err-say_made-in-List
returns-in_err-say_made-in-List g c =
    let failed = err_from_is_err_and c.from_residual-in_err-say_made-in-List.result c.from_residual-in_err-say_made-in-List.ensures.1 in
    let pages_are = c.pages.ensures ∙ ap (λ (of : CalculatorState). of.nut.pages) c.calculator.ensures.state in
    record {
      text = rw (failed.1, failed.2) (λ values. part_alone c.args.command values c.args.bench.now.state _ _ c.in_ok-listing-in-List.listing
          (list_said c.args.command values c.in-List.address c.in-List.count c.args.bench.now.state _
          c.in_ok-listing-in-List.listing c.in-List.is pages_are c.in_ok-listing-in-List.ensures)
          c.in_err-say_made-in-List.ensures.written);
      memory = rw (failed.1, failed.2) (λ is. cc);
      unchanged = rw (failed.1, failed.2) (λ is. cc);
      mark = rw (failed.1, failed.2) c.in_err-say_made-in-List.ensures.mark;
    }

pub returns-in_default : goal.returns-in_default
returns-in_default g c = record {
  text = λ values. silent_alone c.args.command values c.args.bench.now.state _ _ _ (c.carry_out.ensures values);
  memory = λ is. cc;
  unchanged = λ is. cc;
  mark = c.requires.clear;
}

pub returns-in_ok-run-in-Run : goal.returns-in_ok-run-in-Run
returns-in_ok-run-in-Run g c = record {
  text = alone_is (λ (item : Spelled). SaysText item c.args.bench.now.state c.run.new.bench.state (g.W.Sink.contents c.args.writer.now)
      (g.W.Sink.contents c.run.new.writer) c.in_ok-run-in-Run.field-0) c.args.command (commands.Run c.in-Run.limit) c.in-Run.is
      c.in_ok-run-in-Run.ensures.text;
  memory = λ is. cc;
  unchanged = λ is. cc;
  mark = c.in_ok-run-in-Run.ensures.mark;
}

pub returns-in_err-run-in-Run : goal.returns-in_err-run-in-Run
returns-in_err-run-in-Run g c =
    let failed = err_from_is_err_and c.from_residual.result c.from_residual.ensures.1 in
    record {
      text = λ values. part_said _ _ failed.1 _ c.args.bench.now.state c.run.new.bench.state g.W.Sink.contents c.args.writer.now
          c.run.new.writer failed.2
          (alone_is (λ (item : Spelled). RepliesInPart item c.args.bench.now.state c.run.new.bench.state
          (g.W.Sink.contents c.args.writer.now) (g.W.Sink.contents c.run.new.writer)) c.args.command (commands.Run c.in-Run.limit)
          c.in-Run.is c.in_err-run-in-Run.ensures.text values);
      memory = rw (failed.1, failed.2) (λ is. cc);
      unchanged = rw (failed.1, failed.2) (λ is. cc);
      mark = rw (failed.1, failed.2) c.in_err-run-in-Run.ensures.mark;
    }

pub returns-in_ok-trace-in-Trace : goal.returns-in_ok-trace-in-Trace
returns-in_ok-trace-in-Trace g c = record {
  text = alone_is (λ (item : Spelled). SaysText item c.args.bench.now.state c.trace.new.bench.state (g.W.Sink.contents c.args.writer.now)
      (g.W.Sink.contents c.trace.new.writer) c.in_ok-trace-in-Trace.field-0) c.args.command (commands.Trace c.in-Trace.count) c.in-Trace.is
      c.in_ok-trace-in-Trace.ensures.text;
  memory = λ is. cc;
  unchanged = λ is. cc;
  mark = c.in_ok-trace-in-Trace.ensures.mark;
}

pub returns-in_err-trace-in-Trace : goal.returns-in_err-trace-in-Trace
returns-in_err-trace-in-Trace g c =
    let failed = err_from_is_err_and c.from_residual-in_err-trace-in-Trace.result c.from_residual-in_err-trace-in-Trace.ensures.1 in
    record {
      text = λ values. part_said _ _ failed.1 _ c.args.bench.now.state c.trace.new.bench.state g.W.Sink.contents c.args.writer.now
          c.trace.new.writer failed.2
          (alone_is (λ (item : Spelled). RepliesInPart item c.args.bench.now.state c.trace.new.bench.state
          (g.W.Sink.contents c.args.writer.now) (g.W.Sink.contents c.trace.new.writer)) c.args.command (commands.Trace c.in-Trace.count)
          c.in-Trace.is c.in_err-trace-in-Trace.ensures.text values);
      memory = rw (failed.1, failed.2) (λ is. cc);
      unchanged = rw (failed.1, failed.2) (λ is. cc);
      mark = rw (failed.1, failed.2) c.in_err-trace-in-Trace.ensures.mark;
    }

pub returns-in_ok-say_made-in-List : goal.returns-in_ok-say_made-in-List
returns-in_ok-say_made-in-List g c = record {
  text = search rules;
  memory = λ is. cc;
  unchanged = λ is. cc;
  mark = c.in_ok-say_made-in-List.ensures.mark;
}

pub returns-in_err-listing-in-List : goal.returns-in_err-listing-in-List
returns-in_err-listing-in-List g c =
    let failed = err_from_is_err_and c.from_residual-in_err-listing-in-List.result c.from_residual-in_err-listing-in-List.ensures.1 in
    record {
      text = λ values. nothing_said _ _ failed.1 _ _ _ _ _ failed.2;
      memory = search rules;
      unchanged = λ is. refl;
      mark = rw (failed.1, failed.2) c.requires.clear;
    }

pub returns-in-Show : goal.returns-in-Show
returns-in-Show g c = record {
  text = alone_is (λ (item : Spelled). LeavesText c.show.result item c.args.bench.now.state c.args.bench.now.state g.W.Sink.contents
      c.args.writer.now
      c.show.new.writer) c.args.command (commands.Show c.in-Show.view) c.in-Show.is c.show.ensures.text;
  memory = search rules;
  unchanged = λ is. refl;
  mark = c.show.ensures.mark;
}
