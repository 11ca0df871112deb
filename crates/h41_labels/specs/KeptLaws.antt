-- Laws of the label cache.
use Rattle.std.specs.Prelude.{List, Option}
use Rattle.h41_labels.specs.KeptAnswers.{IsRight, KeepsSearch}
use Rattle.h41_labels.specs.declared.search.KeptAnswer.{KeptAnswer}
use Rattle.h41_labels.specs.declared.search.Search.{Search}
use Rattle.h41_ram.specs.RamState.{SameProgram}
use Rattle.h41_ram.specs.RegisterMap.{RegisterMap}

-- If two memories have the same program, a cache that is right for one is right for the other.
abbrev pub RightnessDepends : Type 0
RightnessDepends =
    (memory other : RegisterMap) (kept : List KeptAnswer) → SameProgram memory other
    → IsRight kept memory → IsRight kept other

-- A cache that is right stays right after a search, and if no search is made.
abbrev pub SearchesStayRight : Type 0
SearchesStayRight =
    (memory : RegisterMap) (search : Option Search) (old new : List KeptAnswer)
    → KeepsSearch memory search old new → IsRight old memory → IsRight new memory
