use Rattle.std.proofs.lemmas.Result.{err_from_is_err_and}
use Rattle.h41_rows.proofs.Working.{works_two, first_fails, second_fails}
use Rattle.h41_rows.proofs.values.of_registers.Goals as goal

pub returns-in_err-x : goal.returns-in_err-x
returns-in_err-x c =
    let p = err_from_is_err_and c.from_residual.result c.from_residual.ensures.1 in
    rw (p.1, p.2)
    (first_fails c.args.value c.args.first c.args.second c.args.ignores_range c.in_err-x.field-0.0 c.in_err-x.ensures.0
    c.in_err-x.ensures.1)

pub returns-in_err-y : goal.returns-in_err-y
returns-in_err-y c =
    let p = err_from_is_err_and c.from_residual-in_err-y.result c.from_residual-in_err-y.ensures.1 in
    rw (p.1, p.2)
    (second_fails c.args.value c.args.first c.args.second c.args.ignores_range c.in_err-y.field-0.0 c.in_err-y.ensures.0
    c.in_err-y.ensures.1)

pub returns : goal.returns
returns c =
    works_two c.args.value c.args.first c.args.second c.args.ignores_range c.in_ok-x.x c.in_ok-y.y
    c.kept_of_two.result c.in_ok-x.ensures c.in_ok-y.ensures c.kept_of_two.ensures
