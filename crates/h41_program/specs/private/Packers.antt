-- The content of a packer, by the lines that were appended to it.
use Rattle.std.specs.Prelude.{◌≡◌, ◌⊎◌, ℕ, ◌+◌, ◌<◌, IsTrue, IsFalse, Bool, false, ◌&&◌, List, []}
use Rattle.std.specs.Prelude.{◌∷◌, ◌++◌, length, Option, if◌then◌else◌}
use Rattle.std.specs.Option.{option_map_or}
use Rattle.h41_program.specs.Lines.{is_number}
use Rattle.h41_codes.specs.declared.line.Line.{Line}
use Rattle.h41_program.specs.declared.packer.Packer.{Packer}
use Rattle.h41_program.specs.Packing.{last_line, packed_lines}

-- The most bytes of lines, because .END. needs three bytes of the largest memory.
abbrev pub packed_most : ℕ
packed_most = 2237

-- The bytes of these lines, or the fact that they are too many, and the last line.
pub record Packs (packer : Packer) (lines : List Line) : Type 0 where
  pub held : IsFalse packer.full → packer.bytes.items ≡ packed_lines lines
  pub full : IsTrue packer.full → packed_most < length (packed_lines lines)
  pub last : packer.last ≡ last_line lines

-- Bytes were appended, or all together are too many.
pub record Pushes (old new : Packer) (more : List ℕ) : Type 0 where
  pub held : IsFalse new.full → (IsFalse old.full) × (new.bytes.items ≡ old.bytes.items ++ more)
  pub full : IsTrue new.full
      → (IsTrue old.full) ⊎ (packed_most < length old.bytes.items + length more)
  pub last : new.last ≡ old.last

-- The null between the last line and a line that follows, if both are numbers.
abbrev pub null_between : Bool → Option Line → List ℕ
null_between number last = if option_map_or is_number last false && number then 0x00 ∷ [] else []

-- Lines were appended to others.
abbrev pub Puts : Packer → Packer → List Line → Type 0
Puts old new more = (lines : List Line) → Packs old lines → Packs new (lines ++ more)

-- A line, if it is wanted.
abbrev pub line_if : Bool → Line → List Line
line_if wanted line = if wanted then line ∷ [] else []
