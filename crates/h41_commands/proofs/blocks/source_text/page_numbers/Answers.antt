use Rattle.std.proofs.lemmas.Result.{IfOk-from_err}
use Rattle.h41_commands.proofs.blocks.source_text.page_numbers.Goals as goal

pub returns-in_err-numbers : goal.returns-in_err-numbers
returns-in_err-numbers c =
    let failed = c.from_residual.ensures.0 in
    record { fitting = IfOk-from_err _ _ failed; bound = IfOk-from_err _ _ failed }

pub returns-in_err-push : goal.returns-in_err-push
returns-in_err-push c =
    let failed = c.from_residual-in_err-push.ensures.0 in
    record { fitting = IfOk-from_err _ _ failed; bound = IfOk-from_err _ _ failed }
