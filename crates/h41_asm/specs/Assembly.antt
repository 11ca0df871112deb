-- The words of a source at an origin.
use Rattle.std.specs.Prelude.{ℕ, ◌+◌, ◌<◌, ◌≤◌, ◌↔◌, List, length, Contains, IsSome, IfSome}
use Rattle.std.specs.Prelude.{bytes_eq}
use Rattle.std.specs.List.{IsDistinct}
use Rattle.h41_asm.specs.Placing.{Labels, LinesSpell}
use Rattle.h41_asm.specs.SourceLines.{labels_of, source_lines}

-- The number of addresses.
abbrev pub address_count : ℕ
address_count = 0x10000

-- The source has these words if its labels have these addresses.
pub record AssemblesBy (labels : Labels) (source : List ℕ)
    (origin : ℕ) (words : List ℕ) : Type 0 where
  -- Exactly the names that label a line have an address.
  pub names : (name : List ℕ)
      → IsSome (labels name) ↔ Contains (labels_of (source_lines source)) name
  -- No label is after the last address.
  pub within : (name : List ℕ) → IfSome (labels name) (λ address. address < address_count)
  -- Each line spells its words.
  pub spelled : LinesSpell labels origin (source_lines source) words

-- The source spells these words: no two lines have the same label, no word is after the last
-- address, and with some addresses of the labels the lines spell the words.
pub record Assembles (source : List ℕ) (origin : ℕ) (words : List ℕ) : Type 0 where
  pub distinct : IsDistinct bytes_eq (labels_of (source_lines source))
  pub fits : origin + length words ≤ address_count
  pub placed : (labels : Labels) × AssemblesBy labels source origin words
