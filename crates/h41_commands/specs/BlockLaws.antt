-- What holds of every block, whatever the code does.
use Rattle.std.specs.Prelude.{◌≡◌, ℕ, List, Result}
use Rattle.h41_commands.specs.declared.commands.PageKind.{PageKind}
use Rattle.h41_commands.specs.declared.commands.ProgramKind.{ProgramKind}
use Rattle.h41_commands.specs.declared.refusal.LineRefusal.{LineRefusal}
use Rattle.h41_commands.specs.PageBlocks.{Fills}
use Rattle.h41_commands.specs.ProgramBlocks.{Means}

-- A block's values determine the words that fill a page, or the reason why none do.
abbrev pub FillingIsDetermined : Type 0
FillingIsDetermined =
    (kind : PageKind) (page : ℕ) (values : List ℕ) (words others : Result (List ℕ) LineRefusal)
    → Fills kind page values words → Fills kind page values others → words ≡ others

-- A block's values determine the bytes of the program, or the reason why there are none.
abbrev pub MeaningIsDetermined : Type 0
MeaningIsDetermined =
    (kind : ProgramKind) (values : List ℕ) (bytes others : Result (List ℕ) LineRefusal)
    → Means kind values bytes → Means kind values others → bytes ≡ others
