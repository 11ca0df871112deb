-- What the code requires of a word before it looks up its line.
use Rattle.std.specs.Prelude.{◌≡◌, ◌⊎◌, ℕ}

-- The columns that are mapped.
abbrev pub IsMappedColumn : ℕ → Type 0
IsMappedColumn column =
    (column ≡ 0x04)
    ⊎ (column ≡ 0x08)
    ⊎ (column ≡ 0x0C)
    ⊎ (column ≡ 0x14)
    ⊎ (column ≡ 0x1C)
    ⊎ (column ≡ 0x3C)
