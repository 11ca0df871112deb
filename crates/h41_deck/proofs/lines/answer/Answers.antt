use Rattle.std.proofs.Common.{Some}
use Rattle.std.proofs.lemmas.Result.{err_from_is_err_and}
use Rattle.h41_commands.specs.private.TakenBlocks.{judgement}
use Rattle.h41_deck.proofs.Commanded.{ends_part, ends_reply, given_memory, refused_item}
use Rattle.h41_deck.proofs.lines.answer.Goals as goal

pub returns-in_ok-end-in-Refused-clause-reply : goal.returns-in_ok-end-in-Refused-clause-reply
returns-in_ok-end-in-Refused-clause-reply g c =
    let told = c.in_ok-end-in-Refused.ensures in
    rw c.in-Refused.is (ends_reply _ c.args.bench.now.state _ _ _ _ (Some c.from.result) _
    (refused_item c.in-Refused.refusal c.args.bench.now.state _ _ c.from.ensures) told.outcome told.written)

pub returns-in_err-end-in-Refused-clause-reply : goal.returns-in_err-end-in-Refused-clause-reply
returns-in_err-end-in-Refused-clause-reply g c =
    let failed = err_from_is_err_and c.from_residual.result c.from_residual.ensures.1 in
    rw (failed.1, failed.2, c.in-Refused.is)
    (ends_part _ c.args.bench.now.state _ _ _ _ (Some c.from.result)
    (refused_item c.in-Refused.refusal c.args.bench.now.state _ _ c.from.ensures) c.in_err-end-in-Refused.ensures.written)

pub returns-in-Given-clause-memory : goal.returns-in-Given-clause-memory
returns-in-Given-clause-memory g c = λ is. rw c.in-Given.is
    (given_memory (judgement c.in-Given.field-0.block) c.in-Given.field-0.command (c.apply.ensures.accepted is) (c.apply.ensures.memory is))
