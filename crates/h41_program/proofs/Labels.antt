-- Lines that are no label with a name, by their last byte or their size.
use Rattle.std.proofs.Common.{◌≡◌, ℕ, suc, true, false, List, get_or, rules}
use Rattle.std.proofs.lemmas.Slice.Eq.{bytes_eq-Decides}
use Rattle.std.specs.Str.{bytes_eq}
use Rattle.h41_codes.specs.ByteGrammar.{spelling}
use Rattle.h41_codes.specs.declared.line.Line.{Line}
use Rattle.h41_program.specs.Lines.{is_named}

-- A label with a name has four bytes more than the name, whose characters are the last ones.
same_name : (name label : List ℕ) → bytes_eq label name ≡ true → label ≡ name
same_name name label same = (bytes_eq-Decides label name).0 same

pub named_otherwise : (name : List ℕ) (k : ℕ) (line : Line) → (get_or (spelling line) (suc (suc (suc (suc k)))) 0 ≡ get_or name k 0 → ⊥)
    → is_named name line ≡ false
named_otherwise name k line other = search (rules, same_name)
