use Rattle.std.proofs.Common.{rules}
use Rattle.h41_rows.proofs.Working.{works_one, works_without}
use Rattle.h41_rows.proofs.values.of_register.Goals as goal

pub returns-in-Ok : goal.returns-in-Ok
returns-in-Ok c =
    works_one c.args.value c.args.register c.args.places c.args.ignores_range c.in-Ok.number c.kept_of_one.result c.in-Ok.ensures
    c.kept_of_one.ensures

pub returns-in-Err : goal.returns-in-Err
returns-in-Err c = search (rules, works_without)
