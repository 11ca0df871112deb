use Rattle.h41_breakpoints.proofs.TableBits.{tables_of_none}
use Rattle.h41_breakpoints.proofs.tables.Tables.new.Goals as goal

pub returns : goal.returns
returns c = tables_of_none _ c.in_ok-new.ensures c.in_ok-new-2.ensures c.in_ok-new-3.ensures
