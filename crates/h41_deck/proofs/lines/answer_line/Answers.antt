use Rattle.std.proofs.Common.{rules, [], Some, sym, subst}
use Rattle.std.proofs.lemmas.Result.{err_from_is_err_and}
use Rattle.h41_commands.specs.Items.{Spelled}
use Rattle.h41_deck.specs.private.Writing.{Replies, RepliesInPart}
use Rattle.h41_refusals.specs.declared.refusal.Refusal.TheVariants.{Line}
use Rattle.h41_deck.proofs.Commanded.{ends_part, ends_reply}
use Rattle.h41_deck.proofs.ShortLines.{command_spelled, refusal_spelled, refused_said}
use Rattle.h41_deck.proofs.lines.answer_line.Goals as goal

pub returns-in_ok-end-in-Ok-clause-reply : goal.returns-in_ok-end-in-Ok-clause-reply
returns-in_ok-end-in-Ok-clause-reply g c =
    let is = command_spelled c.args.line.now c.line_command.result c.line_command.ensures.command c.in-Ok.command c.in-Ok.is in
    subst (λ (item : Spelled). Replies item c.args.bench.now.state c.say_alone.new.bench.state (g.W.Sink.contents c.args.writer.now)
    (g.W.Sink.contents c.end.new.writer) c.in_ok-end-in-Ok.field-0) (sym is)
    (ends_reply _ c.args.bench.now.state c.say_alone.new.bench.state _ _ _ c.in_ok-refusal-in-Ok.refusal c.in_ok-end-in-Ok.field-0
    (c.in_ok-refusal-in-Ok.ensures.text []) c.in_ok-end-in-Ok.ensures.outcome c.in_ok-end-in-Ok.ensures.written)

pub returns-in_err-end-in-Ok-clause-reply : goal.returns-in_err-end-in-Ok-clause-reply
returns-in_err-end-in-Ok-clause-reply g c =
    let is = command_spelled c.args.line.now c.line_command.result c.line_command.ensures.command c.in-Ok.command c.in-Ok.is in
    let failed = err_from_is_err_and c.from_residual-in_err-end-in-Ok.result c.from_residual-in_err-end-in-Ok.ensures.1 in
    rw (failed.1, failed.2)
    (subst (λ (item : Spelled). RepliesInPart item c.args.bench.now.state c.say_alone.new.bench.state
    (g.W.Sink.contents c.args.writer.now) (g.W.Sink.contents c.end.new.writer)) (sym is)
    (ends_part _ c.args.bench.now.state c.say_alone.new.bench.state _ _ _ c.in_ok-refusal-in-Ok.refusal
    (c.in_ok-refusal-in-Ok.ensures.text []) c.in_err-end-in-Ok.ensures.written))

pub returns-in_ok-end-in-Err-clause-reply : goal.returns-in_ok-end-in-Err-clause-reply
returns-in_ok-end-in-Err-clause-reply g c =
    let is = refusal_spelled c.args.line.now c.line_command.result c.line_command.ensures.command c.in-Err.refusal c.in-Err.is in
    subst (λ (item : Spelled). Replies item c.args.bench.now.state c.args.bench.now.state (g.W.Sink.contents c.args.writer.now)
    (g.W.Sink.contents c.end-in-Err.new.writer) c.in_ok-end-in-Err.field-0) (sym is)
    (ends_reply _ c.args.bench.now.state c.args.bench.now.state _ _ _ (Some (Line c.in-Err.refusal)) c.in_ok-end-in-Err.field-0
    (refused_said c.in-Err.refusal c.args.bench.now.state _) c.in_ok-end-in-Err.ensures.outcome c.in_ok-end-in-Err.ensures.written)

pub returns-in_err-end-in-Err-clause-reply : goal.returns-in_err-end-in-Err-clause-reply
returns-in_err-end-in-Err-clause-reply g c =
    let is = refusal_spelled c.args.line.now c.line_command.result c.line_command.ensures.command c.in-Err.refusal c.in-Err.is in
    let failed = err_from_is_err_and c.from_residual-in_err-end-in-Err.result c.from_residual-in_err-end-in-Err.ensures.1 in
    rw (failed.1, failed.2)
    (subst (λ (item : Spelled). RepliesInPart item c.args.bench.now.state c.args.bench.now.state (g.W.Sink.contents c.args.writer.now)
    (g.W.Sink.contents c.end-in-Err.new.writer)) (sym is)
    (ends_part _ c.args.bench.now.state c.args.bench.now.state _ _ _ (Some (Line c.in-Err.refusal))
    (refused_said c.in-Err.refusal c.args.bench.now.state _) c.in_err-end-in-Err.ensures.written))

pub say_alone-requires : goal.say_alone-requires
say_alone-requires g c = let alone = rw c.in-Ok.is at c.line_command.ensures.alone in search rules
