-- In the words that a source spells, the table of functions reads what the directives of the source
-- say, whatever fills the rest of the page.
use Rattle.std.specs.Prelude.{◌≡◌, ℕ, ◌+◌, ◌*◌, ◌<◌, Bool, true, false, List, [], ◌∷◌, ◌++◌, length}
use Rattle.std.specs.Prelude.{Option, Some, codes}
use Rattle.h41_asm.specs.Assembly.{AssemblesBy}
use Rattle.h41_asm.specs.Faults.{line_length}
use Rattle.h41_asm.specs.Operands.{is_text}
use Rattle.h41_asm.specs.Placing.{Labels}
use Rattle.h41_asm.specs.SourceLines.{SourceLine, is_name, source_lines}
use Rattle.h41_pages.specs.Addresses.{page_size, offset_of}
use Rattle.h41_pages.specs.FunctionTables.{spelled_name, words_before, entry_offset, is_keystroke}
use Rattle.h41_pages.specs.FunctionTables.{entry_name}

-- The line 'NAME "text"', with a label or without.
abbrev pub name_line : Option (List ℕ) → List ℕ → SourceLine
name_line label text = record { label = label; code = codes "NAME" ∷ (34 ∷ text ++ 34 ∷ []) ∷ [] }

-- The line 'ENTRY :name', with a label or without.
abbrev pub entry_line : Option (List ℕ) → List ℕ → SourceLine
entry_line label name = record { label = label; code = codes "ENTRY" ∷ (58 ∷ name) ∷ [] }

-- The line 'FOCAL :name', with a label or without.
abbrev pub focal_line : Option (List ℕ) → List ℕ → SourceLine
focal_line label name = record { label = label; code = codes "FOCAL" ∷ (58 ∷ name) ∷ [] }

-- The number of words of lines.
abbrev pub lines_length : List SourceLine → ℕ
lines_length [] = 0
lines_length (line ∷ rest) = line_length line + lines_length rest

-- A source of these lines spells these words at an origin, with these addresses of labels.
pub record SpellsBy (labels : Labels) (source : List ℕ) (origin : ℕ)
    (words : List ℕ) (lines : List SourceLine) : Type 0 where
  pub assembled : AssemblesBy labels source origin words
  pub split : source_lines source ≡ lines

-- 'NAME' is read as its text, before the offset after its words.
abbrev pub NameIsRead : Type 0
NameIsRead =
    (labels : Labels) (source words fill text : List ℕ) (origin : ℕ)
    (label : Option (List ℕ)) (before behind : List SourceLine)
    → is_text text ≡ true
    → SpellsBy labels source origin words (before ++ name_line label text ∷ behind)
    → spelled_name (words_before (words ++ fill) (lines_length before + length text)) ≡ Some text

-- A table entry is that of the function at an address, of this kind.
pub record IsEntryOf (words : List ℕ) (entry target : ℕ) (keystroke : Bool) : Type 0 where
  pub offset : entry_offset words entry ≡ offset_of target
  pub kind : is_keystroke words entry ≡ keystroke

-- 'ENTRY', at the place of a table entry, is read as the offset of the label's address in its page,
-- and as microcode.
abbrev pub EntryIsRead : Type 0
EntryIsRead =
    (labels : Labels) (source words fill name : List ℕ) (origin entry : ℕ)
    (label : Option (List ℕ)) (before behind : List SourceLine)
    → is_name name ≡ true → lines_length before ≡ 2 + 2 * entry
    → SpellsBy labels source origin words (before ++ entry_line label name ∷ behind)
    → (target : ℕ) × (labels name ≡ Some target) × IsEntryOf (words ++ fill) entry target false

-- 'FOCAL', at the place of a table entry, is read in the same way, but as a keystroke function.
abbrev pub FocalIsRead : Type 0
FocalIsRead =
    (labels : Labels) (source words fill name : List ℕ) (origin entry : ℕ)
    (label : Option (List ℕ)) (before behind : List SourceLine)
    → is_name name ≡ true → lines_length before ≡ 2 + 2 * entry
    → SpellsBy labels source origin words (before ++ focal_line label name ∷ behind)
    → (target : ℕ) × (labels name ≡ Some target) × IsEntryOf (words ++ fill) entry target true

-- A function to whose label 'ENTRY' refers has the name of the 'NAME' before this label, in a
-- page that the source fills from its start on.
abbrev pub FunctionIsRead : Type 0
FunctionIsRead =
    (labels : Labels) (source words fill name text : List ℕ) (origin entry : ℕ)
    (label other : Option (List ℕ)) (code : List (List ℕ))
    (before behind first rest : List SourceLine)
    → is_name name ≡ true → is_text text ≡ true → offset_of origin ≡ 0
    → lines_length before ≡ 2 + 2 * entry
    → lines_length first + length text < page_size
    → SpellsBy labels source origin words (before ++ entry_line label name ∷ behind)
    → SpellsBy labels source origin words
    (first ++ name_line other text ∷ record { label = Some name; code = code } ∷ rest)
    → entry_name (words ++ fill) entry ≡ Some text
