-- Consequences of the definitions of a module's functions and of lines alone.
use Rattle.std.specs.Prelude.{◌≡◌, ℕ, ◌↔◌, List, Some}
use Rattle.h41_codes.specs.ByteGrammar.{Begins}
use Rattle.h41_codes.specs.declared.line.Line.TheVariants.{GlobalLabel}
use Rattle.h41_pages.specs.KeystrokeCode.{code_from, label_name}

-- The bytes begin with a label that has this name.
abbrev pub BeginsLabel : List ℕ → List ℕ → Type 0
BeginsLabel bytes name =
    (link : ℕ) × (key : ℕ) × (count : ℕ) × Begins bytes (GlobalLabel link key name) count

-- Keystroke code has a name exactly if the line with which it begins is a label with this name.
abbrev pub NameIsOfLabel : Type 0
NameIsOfLabel =
    (words name : List ℕ) (offset : ℕ)
    → (label_name (code_from words offset) ≡ Some name) ↔ BeginsLabel (code_from words offset) name
