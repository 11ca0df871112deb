-- The addresses of the lines of a source, and the words that they spell there. Each line is at the
-- origin plus the number of words before it and spells its own words, and each label has the
-- address of its line.
use Rattle.std.specs.Prelude.{◌≡◌, ℕ, ◌+◌, ◌/◌, ◌%◌, ℤ, pos, ◌+ℤ◌, true, List, [], ◌∷◌, ◌++◌}
use Rattle.std.specs.Prelude.{length, IfSome, Option, Some, Result, Ok, Err}
use Rattle.h41_words.specs.declared.rows.Row.TheVariants.{ShortJump}
use Rattle.h41_words.specs.WordTable.{number_of}
use Rattle.h41_asm.specs.declared.fault.SourceFault.{SourceFault}
use Rattle.h41_asm.specs.SourceLines.{SourceLine}
use Rattle.h41_asm.specs.Statements.{Statement, Words, OutOfReach, LongJumpTo, ShortJumpTo, EntryAt}
use Rattle.h41_asm.specs.Statements.{is_in_reach, long_jump_words, reading_of}

-- The addresses of names.
abbrev pub Labels : Type 0
Labels = List ℕ → Option ℕ

-- The two words of the table entry of a function that begins at an address: its position in its
-- page. The first word has the highest of three digits and the bits.
abbrev pub entry_words : ℕ → ℕ → List ℕ
entry_words bits address = (bits + address % 0x1000 / 0x100) ∷ (address % 0x100) ∷ []

-- The displacement of a short jump from one address to another: their difference as integers,
-- within the range of a short jump.
pub record IsDisplacement (from to : ℕ) (displacement : ℤ) : Type 0 where
  pub difference : pos to ≡ pos from +ℤ displacement
  pub in_reach : is_in_reach displacement ≡ true

-- A statement at an address spells these words.
abbrev pub StatementSpells : Labels → ℕ → Statement → List ℕ → Type 0
StatementSpells labels address (Words words) own = own ≡ words
StatementSpells labels address OutOfReach own = ⊥
StatementSpells labels address (LongJumpTo condition kind name) own =
    (target : ℕ) × (labels name ≡ Some target) × (own ≡ long_jump_words condition kind target)
StatementSpells labels address (ShortJumpTo condition name) own =
    (target : ℕ)
    × (displacement : ℤ)
    × (labels name ≡ Some target)
    × IsDisplacement address target displacement
    × (own ≡ number_of (ShortJump condition displacement) ∷ [])
StatementSpells labels address (EntryAt bits name) own =
    (target : ℕ) × (labels name ≡ Some target) × (own ≡ entry_words bits target)

-- A line as it was read spells these words. A line with an error spells none.
abbrev pub SpellsRead : Labels → ℕ → Result Statement SourceFault → List ℕ → Type 0
SpellsRead labels address (Ok statement) own = StatementSpells labels address statement own
SpellsRead labels address (Err fault) own = ⊥

-- A line at an address spells these words.
pub record LineSpells (labels : Labels) (address : ℕ)
    (line : SourceLine) (own : List ℕ) : Type 0 where
  -- The label of the line has this address.
  pub label : IfSome line.label (λ name. labels name ≡ Some address)
  -- The words are those of the statement.
  pub words : SpellsRead labels address (reading_of line.code) own

-- The lines from an address on spell these words, each line its own.
abbrev pub LinesSpell : Labels → ℕ → List SourceLine → List ℕ → Type 0
LinesSpell labels address [] words = words ≡ []
LinesSpell labels address (line ∷ rest) words =
    (own : List ℕ)
    × (others : List ℕ)
    × (words ≡ own ++ others)
    × LineSpells labels address line own
    × LinesSpell labels (address + length own) rest others
