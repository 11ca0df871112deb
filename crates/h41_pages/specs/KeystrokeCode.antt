-- Keystroke code in a page: the low eight bits of each word are a byte of a program. Bits 8 and 9
-- are ignored, which is this project's choice.
use Rattle.std.specs.Prelude.{ℕ, ◌-◌, ◌%◌, Bool, ◌&&◌, List, ◌∷◌, map, take, drop, length}
use Rattle.std.specs.Prelude.{nat_le, Option, None}
use Rattle.std.specs.Bool.{then_some}

-- The byte of a word.
abbrev pub code_byte : ℕ → ℕ
code_byte word = word % 256

-- The bytes from an offset of a page to its end.
abbrev pub code_from : List ℕ → ℕ → List ℕ
code_from words offset = map code_byte (drop offset words)

-- Whether bytes begin with a label that has a name: the first is C0 to CD; the third is F1 to FF,
-- which counts the fourth byte and the name; and the name is not cut off.
abbrev pub is_label : ℕ → ℕ → List ℕ → Bool
is_label first third behind =
    nat_le 0xC0 first && nat_le first 0xCD
    && nat_le 0xF1 third && nat_le (third - 0xF1) (length behind)

-- The name of the label with which bytes begin, or none if they begin with anything else, such as a
-- null.
abbrev pub label_name : List ℕ → Option (List ℕ)
label_name (first ∷ second ∷ third ∷ key ∷ behind) =
    then_some (is_label first third behind) (take (third - 0xF1) behind)
label_name bytes = None
