-- The listing round trip: assembling the listing of words gives these words back, at any origin at
-- which they fit.
use Rattle.std.specs.Prelude.{◌≡◌, ℕ, ◌+◌, ◌<◌, ◌≤◌, ◌↔◌, List, length, All}
use Rattle.h41_words.specs.Counts.{word_count}
use Rattle.h41_dis.specs.Spelling.{spell}
use Rattle.h41_asm.specs.Assembly.{Assembles, address_count}

-- The listing of words, as a source, assembles to these words and to no others.
abbrev pub ListingAssembles : Type 0
ListingAssembles =
    (words : List ℕ) (origin : ℕ) (other : List ℕ) → All (λ word. word < word_count) words
    → origin + length words ≤ address_count
    → Assembles (spell words) origin other ↔ (other ≡ words)
