-- The slots in which the cache stores its answers. Readers of the public contracts can skip this
-- file.
use Rattle.std.specs.Prelude.{◌≡◌, ◌+◌, ◌-◌, ◌*◌, ◌<◌, ◌≤◌, ℕ, List, ◌++◌, drop, length, map}
use Rattle.std.specs.Prelude.{slice_index, take}
use Rattle.h41_labels.specs.declared.search.KeptAnswer.{KeptAnswer}
use Rattle.h41_labels.specs.declared.search.Search.{Search}
use Rattle.h41_labels.specs.declared.search.Search.TheVariants.{Global, Local}

-- The answers in order of age: first those from the oldest answer's slot on, then those before it.
abbrev pub in_turn : ℕ → List KeptAnswer → List KeptAnswer
in_turn oldest slots = drop oldest slots ++ take oldest slots

-- The key of a name, made of its length, its first and its last character. An empty name has the
-- key 0.
abbrev pub name_mark : List ℕ → ℕ
name_mark name =
    length name * 65536 + slice_index name 0 * 256 + slice_index name (length name - 1)

-- The key of a search. Names have keys from 0x800000 on, so that they differ from those of local
-- labels.
abbrev pub mark_of : Search → ℕ
mark_of (Local at n) = at * 128 + n
mark_of (Global name) = 0x800000 + name_mark name

-- The key of a stored answer is that of its search.
abbrev pub mark_beside : KeptAnswer → ℕ
mark_beside kept = mark_of kept.search

-- Each slot has the key of its answer. There are at most 64 slots, and the oldest answer is in a
-- slot other than the first only if all 64 are used.
pub record IsRing (slots : List KeptAnswer) (marks : List ℕ) (oldest : ℕ) : Type 0 where
  pub marked : marks ≡ map mark_beside slots
  pub most : length slots ≤ 64
  pub inside : oldest < 64
  pub taken : 0 < oldest → length slots ≡ 64
