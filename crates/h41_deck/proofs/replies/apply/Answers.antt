use Rattle.std.proofs.lemmas.Result.{err_from_is_err_and}
use Rattle.h41_deck.proofs.Commanded.{ends_part, ends_reply}
use Rattle.h41_deck.proofs.replies.apply.Goals as goal

pub returns-clause-reply : goal.returns-clause-reply
returns-clause-reply g c =
    ends_reply _ _ _ _ _ _ c.in_ok-refusal.refusal _ c.in_ok-refusal.ensures.text c.in_ok-end.ensures.outcome c.in_ok-end.ensures.written

pub returns-in_err-end-clause-reply : goal.returns-in_err-end-clause-reply
returns-in_err-end-clause-reply g c =
    let failed = err_from_is_err_and c.from_residual-in_err-end.result c.from_residual-in_err-end.ensures.1 in
    rw (failed.1, failed.2) (ends_part _ _ _ _ _ _ c.in_ok-refusal.refusal c.in_ok-refusal.ensures.text c.in_err-end.ensures.written)
