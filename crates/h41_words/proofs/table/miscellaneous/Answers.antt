use Rattle.std.proofs.Common.{inl, inr, [], refl, arith}
use Rattle.h41_words.specs.Unassigned.{unassigned_words}
use Rattle.h41_words.proofs.Columns.{covers, unassigned_unless}
use Rattle.h41_words.proofs.table.miscellaneous.Goals as goal

pub new-requires-in-36 : goal.new-requires-in-36
unfolding covers unassigned_words
new-requires-in-36 c = elim c.in-36.is [
  | inl e ↦ unassigned_unless 0x24 [] c.args.word refl (omega arith) (omega arith) refl
  | inr (inl e) ↦ unassigned_unless 0x2C [] c.args.word refl (omega arith) (omega arith) refl
  | inr (inr e) ↦ unassigned_unless 0x34 [] c.args.word refl (omega arith) (omega arith) refl
]
