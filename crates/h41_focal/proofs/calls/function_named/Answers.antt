use Rattle.h41_focal.proofs.Named.{named_by, named_none}
use Rattle.h41_focal.proofs.calls.function_named.Goals as goal

pub returns-in-Ok : goal.returns-in-Ok
returns-in-Ok c =
    named_by c.args.name.now c.in-Ok.line c.function_of.result c.read_line.result c.read_line.ensures.line c.in-Ok.is c.function_of.ensures

pub returns-in-Err : goal.returns-in-Err
returns-in-Err c = named_none c.args.name.now c.in-Err.field-0 c.read_line.result c.read_line.ensures.line c.in-Err.is
