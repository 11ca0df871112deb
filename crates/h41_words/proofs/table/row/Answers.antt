use Rattle.std.proofs.Common.{arith}
use Rattle.h41_words.specs.declared.rows.Row.TheVariants.{Arithmetic}
use Rattle.h41_words.specs.WordTable.{number_of}
use Rattle.h41_words.proofs.RoundTrip.{is_row_of}
use Rattle.h41_words.proofs.Lengths.{is_length_of}
use Rattle.h41_words.proofs.table.row.Goals as goal

pub returns-then-number-eq1-clause-row : goal.returns-then-number-eq1-clause-row
returns-then-number-eq1-clause-row c = is_row_of _ _ c.jump.ensures.valid c.jump.ensures.number

pub returns-then-number-eq1-clause-length : goal.returns-then-number-eq1-clause-length
returns-then-number-eq1-clause-length c = is_length_of _ _ c.jump.ensures.valid c.jump.ensures.number

pub returns-then-number-eq2-clause-row : goal.returns-then-number-eq2-clause-row
unfolding number_of
returns-then-number-eq2-clause-row c = is_row_of (Arithmetic c.operation.result c.field.result) c.args.word tt (omega arith)

pub returns-then-number-eq2-clause-length : goal.returns-then-number-eq2-clause-length
unfolding number_of
returns-then-number-eq2-clause-length c = is_length_of (Arithmetic c.operation.result c.field.result) c.args.word tt (omega arith)

pub returns-else-number-eq2-clause-row : goal.returns-else-number-eq2-clause-row
returns-else-number-eq2-clause-row c = is_row_of _ _ c.miscellaneous.ensures.valid c.miscellaneous.ensures.number

pub returns-else-number-eq2-clause-length : goal.returns-else-number-eq2-clause-length
returns-else-number-eq2-clause-length c = is_length_of _ _ c.miscellaneous.ensures.valid c.miscellaneous.ensures.number
