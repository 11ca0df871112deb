-- The listing of words: they are cut into instructions, and each is written on a line of its own.
-- The texts and the form of a line are those of this project's table of mnemonics.
use Rattle.std.specs.Prelude.{◌≡◌, ℕ, ◌+◌, ◌%◌, List, [], ◌∷◌, ◌++◌, flat_map, Option, Some, None}
use Rattle.std.specs.Prelude.{String, codes, string_bytes, ◌==◌, if◌then◌else◌}
use Rattle.h41_digits.specs.Register.{hexadecimal_text}
use Rattle.h41_words.specs.Mnemonics.{row_text, instruction_text}
use Rattle.h41_words.specs.WordTable.{row_of, length_of}
use Rattle.h41_dis.specs.declared.cut.Piece.{Piece}

-- An instruction of one word.
abbrev pub piece_of_one : ℕ → Piece
piece_of_one first = record { first = first; second = None }

-- An instruction of two words.
abbrev pub with_second : ℕ → ℕ → Piece
with_second first second = record { first = first; second = Some second }

-- The instructions of words, from the first word on: two words if the first has length 2 and
-- another word follows, otherwise one.
abbrev pub pieces : List ℕ → List Piece
pieces [] = []
pieces (first ∷ []) = piece_of_one first ∷ []
pieces (first ∷ second ∷ rest) =
    if length_of first == 2 then with_second first second ∷ pieces rest
    else piece_of_one first ∷ pieces (second ∷ rest)

-- The text of an instruction is that of its row. A first word of two without its second word is
-- CON.
abbrev pub piece_text : ℕ → Option ℕ → List ℕ
piece_text first None = row_text (row_of first)
piece_text first (Some second) = instruction_text (row_of first) second

-- The line of an instruction: its text and a line end.
abbrev pub piece_line : Piece → List ℕ
piece_line piece = piece_text piece.first piece.second ++ codes "\n"

-- The lines of instructions, one after the other.
abbrev pub lines_of : List Piece → List ℕ
lines_of pieces = flat_map piece_line pieces

-- The text of words, a line for each instruction. It does not depend on the address of the first
-- word, since the text of a jump contains its target address or its displacement.
abbrev pub spell : List ℕ → List ℕ
spell words = lines_of (pieces words)

-- The number of words of an instruction.
abbrev pub piece_length : Piece → ℕ
piece_length piece = elim piece.second [ None ↦ 1 | Some second ↦ 2 ]

-- The second word in the column of words: a space and its number, or four spaces if there is none.
abbrev pub second_column : Option ℕ → List ℕ
second_column None = codes "    "
second_column (Some second) = codes " " ++ hexadecimal_text 3 second

-- The words of an instruction in a column of seven characters.
abbrev pub words_column : Piece → List ℕ
words_column piece = hexadecimal_text 3 piece.first ++ second_column piece.second

-- The columns before the text of an instruction: its address and its words, each followed by two
-- spaces.
abbrev pub columns_text : ℕ → Piece → List ℕ
columns_text address piece =
    hexadecimal_text 4 address ++ codes "  " ++ words_column piece ++ codes "  "

-- The line of an instruction, with its columns, was appended to a text.
abbrev pub GainsLine : {Z : Type 0} → ℕ → Piece → String Z → String Z → Type 0
GainsLine address piece old new =
    string_bytes new ≡ (string_bytes old ++ columns_text address piece) ++ piece_line piece

-- A line with its columns. An address has 16 bits, so it is taken modulo 10000 hexadecimal.
abbrev pub columns_line : ℕ → Piece → List ℕ
columns_line address piece = columns_text (address % 0x10000) piece ++ piece_line piece

-- The lines of instructions with their columns; the first instruction is at the given address.
abbrev pub columns_of : ℕ → List Piece → List ℕ
columns_of address [] = []
columns_of address (piece ∷ rest) =
    columns_line address piece ++ columns_of (address + piece_length piece) rest

-- The listing of words whose first one is at the origin.
abbrev pub listing_text : List ℕ → ℕ → List ℕ
listing_text words origin = columns_of origin (pieces words)
