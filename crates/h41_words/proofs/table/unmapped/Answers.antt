use Rattle.std.proofs.Common.{inl, inr, ◌≡◌, false, refl, rules}
use Rattle.h41_words.specs.Unassigned.{unassigned_words}
use Rattle.h41_words.specs.WordTable.{number_of}
use Rattle.h41_words.proofs.Columns.{covers, is_one_of, mapped, numbers_in, unassigned_unmapped}
use Rattle.h41_words.proofs.table.unmapped.Goals as goal

pub new-requires : goal.new-requires
unfolding covers unassigned_words number_of
new-requires c =
    let none : is_one_of (numbers_in mapped) c.args.word ≡ false = search rules in
    elim c.requires.column [
      | inl e ↦ unassigned_unmapped 0x04 (numbers_in mapped) c.args.word refl c.requires.line e none
      | inr (inl e) ↦ unassigned_unmapped 0x08 (numbers_in mapped) c.args.word refl c.requires.line e none
      | inr (inr (inl e)) ↦ unassigned_unmapped 0x0C (numbers_in mapped) c.args.word refl c.requires.line e none
      | inr (inr (inr (inl e))) ↦ unassigned_unmapped 0x14 (numbers_in mapped) c.args.word refl c.requires.line e none
      | inr (inr (inr (inr (inl e)))) ↦ unassigned_unmapped 0x1C (numbers_in mapped) c.args.word refl c.requires.line e none
      | inr (inr (inr (inr (inr e)))) ↦ unassigned_unmapped 0x3C (numbers_in mapped) c.args.word refl c.requires.line e none
    ]
