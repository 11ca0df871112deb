use Rattle.std.proofs.Common.{[], ◌∷◌, refl, rules, arith}
use Rattle.h41_words.specs.Unassigned.{unassigned_words}
use Rattle.h41_words.specs.WordTable.{number_of}
use Rattle.h41_words.proofs.Columns.{covers, numbers_in, unassigned_unless}
use Rattle.h41_words.proofs.table.column_30.Goals as goal

pub new-requires : goal.new-requires
unfolding covers unassigned_words number_of
new-requires c =
    unassigned_unless 0x30 (numbers_in (0x30 ∷ [])) c.args.word refl (omega arith) (omega arith) (search rules)
