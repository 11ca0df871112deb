-- The program that the lines of a block define, as bytes or as text. The commands are this
-- project's choice.
use Rattle.std.specs.Prelude.{◌≡◌, ◌⊎◌, ℕ, suc, ◌==◌, ◌++◌, List, [], ◌∷◌, Result, Ok, Err}
use Rattle.std.specs.List.{slice_split}
use Rattle.h41_codes.specs.declared.line.Line.{Line}
use Rattle.h41_program.specs.Packing.{packed_lines}
use Rattle.h41_text.specs.LineReading.{IsTextOf}
use Rattle.h41_commands.specs.declared.commands.ProgramKind.{ProgramKind}
use Rattle.h41_commands.specs.declared.commands.ProgramKind.TheVariants.{Bytes, Text}
use Rattle.h41_commands.specs.declared.refusal.LineRefusal.{LineRefusal}
use Rattle.h41_commands.specs.declared.refusal.LineRefusal.TheVariants.{BadText}
use Rattle.h41_commands.specs.Commands.{and_then}

-- The texts of a program's lines: the parts between line ends (LF).
abbrev pub texts_of : List ℕ → List (List ℕ)
texts_of source = slice_split (λ byte. byte == 10) source

-- A text that is not that of a program line. An empty text is not bad: it is skipped.
abbrev pub IsBadText : List ℕ → Type 0
IsBadText [] = ⊥
IsBadText (byte ∷ rest) = (line : Line) → IsTextOf (byte ∷ rest) line → ⊥

-- The program line that a text defines; an empty text defines none.
abbrev pub SaysLine : List ℕ → List Line → Type 0
SaysLine [] said = said ≡ []
SaysLine (byte ∷ rest) said = (line : Line) × IsTextOf (byte ∷ rest) line × (said ≡ line ∷ [])

-- Lines, and more lines after them.
abbrev pub with_more : List Line → Result (List Line) LineRefusal → Result (List Line) LineRefusal
with_more said more = and_then more (λ lines. Ok (said ++ lines))

-- The lines that texts define in turn, or BadText (41) with the number of the first that is not the
-- text of a line. The first text has this number.
abbrev pub SayLines : ℕ → List (List ℕ) → Result (List Line) LineRefusal → Type 0
SayLines number [] lines = lines ≡ Ok []
SayLines number (text ∷ texts) lines =
    (IsBadText text × (lines ≡ Err (BadText number)))
    ⊎ ((said : List Line)
    × SaysLine text said
    × (more : Result (List Line) LineRefusal)
    × SayLines (suc number) texts more
    × (lines ≡ with_more said more))

-- The bytes that a program's text defines: those of its lines, with a null byte between two
-- numbers.
abbrev pub TextSpells : List ℕ → Result (List ℕ) LineRefusal → Type 0
TextSpells source bytes =
    (lines : Result (List Line) LineRefusal)
    × SayLines 1 (texts_of source) lines
    × (bytes ≡ and_then lines (λ lines. Ok (packed_lines lines)))

-- The bytes of a block: they are its values, or its text defines them.
abbrev pub Means : ProgramKind → List ℕ → Result (List ℕ) LineRefusal → Type 0
Means Bytes values bytes = bytes ≡ Ok values
Means Text source bytes = TextSpells source bytes
