-- The lines of a source, the words of a line, and the label with which a line can begin. The
-- language is this project's own.
use Rattle.std.specs.Prelude.{ℕ, suc, ◌-◌, Bool, false, not, ◌&&◌, ◌||◌, List, [], ◌∷◌, length}
use Rattle.std.specs.Prelude.{take, filter, map, filter_map, nat_lt, nat_le, ◌==◌, if◌then◌else◌}
use Rattle.std.specs.Prelude.{Option, Some, None, slice_index}
use Rattle.std.specs.List.{list_all, onto_first}
pub use Rattle.h41_lines.specs.Lines.{lines}
pub use Rattle.h41_lines.specs.Words.{is_blank}

-- Whether the text after a byte is in quotes: each '"' begins or ends quotes.
abbrev pub quoted_after : Bool → ℕ → Bool
quoted_after quoted byte = if byte == 34 then not quoted else quoted

-- The parts of a line; its first byte is in quotes or not. Outside quotes, a space or tab separates
-- parts, and a ';' begins a comment, which ends the last part.
abbrev pub parts_from : Bool → List ℕ → List (List ℕ)
parts_from quoted [] = [] ∷ []
parts_from quoted (byte ∷ rest) =
    let others = parts_from (quoted_after quoted byte) rest in
    if not quoted && byte == 59 then [] ∷ []
    else (if not quoted && is_blank byte then [] ∷ others
    else onto_first byte others)

-- The number of bytes of the first part.
abbrev pub part_length : Bool → List ℕ → ℕ
part_length quoted [] = 0
part_length quoted (byte ∷ rest) =
    if not quoted && (is_blank byte || byte == 59) then 0
    else suc (part_length (quoted_after quoted byte) rest)

-- The words of a line: its parts without the empty ones.
abbrev pub words_of : List ℕ → List (List ℕ)
words_of line = filter (λ part. nat_lt 0 (length part)) (parts_from false line)

-- A letter, of either case.
abbrev pub is_letter : ℕ → Bool
is_letter byte = (nat_le 65 byte && nat_le byte 90) || (nat_le 97 byte && nat_le byte 122)

-- A byte that can follow the first letter of a name.
abbrev pub is_name_byte : ℕ → Bool
is_name_byte byte = is_letter byte || (nat_le 48 byte && nat_le byte 57) || byte == 95

-- A name: a letter, and up to eleven letters, digits or '_'.
abbrev pub is_name : List ℕ → Bool
is_name [] = false
is_name (first ∷ others) =
    is_letter first && (list_all is_name_byte others && nat_le (length others) 11)

-- The name that a word gives to its line as a label: 'name:'.
abbrev pub label_in : List ℕ → Option (List ℕ)
label_in word =
    let name = take (length word - 1) word in
    if slice_index word (length word - 1) == 58 && is_name name then Some name else None

-- The name to which a word refers: ':name'.
abbrev pub reference_in : List ℕ → Option (List ℕ)
reference_in [] = None
reference_in (first ∷ name) = if first == 58 && is_name name then Some name else None

-- A line: its label, if it has one, and the words after the label.
pub record SourceLine : Type 0 where
  pub label : Option (List ℕ)
  pub code : List (List ℕ)

-- A line whose first word is a label or is not.
abbrev pub behind_label : Option (List ℕ) → List ℕ → List (List ℕ) → SourceLine
behind_label None first others = record { label = None; code = first ∷ others }
behind_label (Some name) first others = record { label = Some name; code = others }

-- The line that consists of these words.
abbrev pub line_of : List (List ℕ) → SourceLine
line_of [] = record { label = None; code = [] }
line_of (first ∷ others) = behind_label (label_in first) first others

-- The lines of a source.
abbrev pub source_lines : List ℕ → List SourceLine
source_lines source = map (λ line. line_of (words_of line)) (lines source)

-- The labels of lines, in the order of the lines.
abbrev pub labels_of : List SourceLine → List (List ℕ)
labels_of some = filter_map (λ line. line.label) some
