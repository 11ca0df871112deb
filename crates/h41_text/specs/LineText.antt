-- The text of a line.
use Rattle.std.specs.Prelude.{ℕ, ◌-◌, ◌==◌, nat_lt, List, [], ◌∷◌, ◌++◌, map, slice_index_or}
use Rattle.std.specs.Prelude.{if◌then◌else◌, codes}
use Rattle.std.specs.List.{flat_map}
use Rattle.h41_codes.specs.declared.functions.Branch.TheVariants.{GoTo}
use Rattle.h41_codes.specs.declared.functions.ParameterFunction.TheVariants.{Label}
use Rattle.h41_codes.specs.declared.line.Operand.{Operand}
use Rattle.h41_codes.specs.declared.line.Operand.TheVariants.{Direct, Indirect}
use Rattle.h41_codes.specs.declared.line.Line.{Line}
use Rattle.h41_codes.specs.declared.line.Line.TheVariants.{Null, LocalLabel, Number, Named}
use Rattle.h41_codes.specs.declared.line.Line.TheVariants.{Register, Plain, WithOperand, Module}
use Rattle.h41_codes.specs.declared.line.Line.TheVariants.{BranchIndirect, ShortGoTo, GlobalLabel}
use Rattle.h41_codes.specs.declared.line.Line.TheVariants.{End, FinalEnd, BranchTo, Text}
use Rattle.h41_codes.specs.declared.characters.Character.{Character}
use Rattle.h41_codes.specs.declared.characters.Character.TheVariants.{Minus}
use Rattle.h41_lines.specs.Characters.{two_digits, escape_of, character_text}
use Rattle.h41_text.specs.Names.{function_name, parameter_function_name, register_function_name}
use Rattle.h41_text.specs.Names.{name_function_name, branch_name, character_byte}

-- The names of the parameters from 100 on: two numbers, the labels A to J, the stack and the
-- registers after it, and the labels a to e.
abbrev pub high_parameters : List (List ℕ)
high_parameters =
    codes "100" ∷ codes "101"
    ∷ codes "A" ∷ codes "B" ∷ codes "C" ∷ codes "D" ∷ codes "E" ∷ codes "F" ∷ codes "G" ∷ codes "H"
    ∷ codes "I" ∷ codes "J" ∷ codes "T" ∷ codes "Z" ∷ codes "Y" ∷ codes "X" ∷ codes "L" ∷ codes "M"
    ∷ codes "N" ∷ codes "O" ∷ codes "P" ∷ codes "Q" ∷ codes "append" ∷ codes "a" ∷ codes "b"
    ∷ codes "c" ∷ codes "d" ∷ codes "e" ∷ []

-- The text of a parameter: 00 to 99 as two digits, otherwise its name.
abbrev pub parameter_text : ℕ → List ℕ
parameter_text number =
    if nat_lt number 100 then two_digits number
    else slice_index_or high_parameters (number - 100) []

-- A character in quotes is as the display shows it, but a quote is \ and two hexadecimal digits,
-- because it would end the text.
abbrev pub character_quoted : ℕ → List ℕ
character_quoted character =
    if character == 0x22 then escape_of character else character_text character

-- A text in quotes.
abbrev pub quoted_text : List ℕ → List ℕ
quoted_text characters = 0x22 ∷ (flat_map character_quoted characters ++ 0x22 ∷ [])

-- The text of a text line. If it begins with the append sign, > precedes the quotes, and the sign
-- is not in them.
abbrev pub text_line : List ℕ → List ℕ
text_line [] = quoted_text []
text_line (first ∷ rest) =
    if first == 0x7F then 0x3E ∷ quoted_text rest else quoted_text (first ∷ rest)

-- The text of a number is its characters. A lone minus is NEG, because - is the function.
abbrev pub number_line : List Character → List ℕ
number_line (Minus ∷ []) = codes "NEG"
number_line characters = map character_byte characters

-- The text of an operand is its parameter, preceded by IND if it is indirect.
abbrev pub operand_text : Operand → List ℕ
operand_text (Direct parameter) = parameter_text parameter
operand_text (Indirect parameter) = codes "IND " ++ parameter_text parameter

-- A name, a space and what follows.
infixr 10 ◌&◌
abbrev pub ◌&◌ : List ℕ → List ℕ → List ℕ
name & operand = name ++ 0x20 ∷ operand

-- The text of each line. Two spellings of a line have the same text, and the null has none.
abbrev pub line_text : Line → List ℕ
line_text Null = []
line_text (LocalLabel label) = parameter_function_name Label & two_digits label
line_text (Number characters) = number_line characters
line_text (Named function name) = name_function_name function & quoted_text name
line_text (Register function register) = register_function_name function & two_digits register
line_text (Plain function) = function_name function
line_text (WithOperand function operand) = parameter_function_name function & operand_text operand
line_text (Module number entry) = codes "XROM" & (two_digits number ++ 0x2C ∷ two_digits entry)
line_text (BranchIndirect branch register) = branch_name branch & operand_text (Indirect register)
line_text (ShortGoTo label distance) = branch_name GoTo & two_digits label
line_text (GlobalLabel link key name) = parameter_function_name Label & quoted_text name
line_text (End link marks) = codes "END"
line_text (FinalEnd link marks) = codes ".END."
line_text (BranchTo branch distance backwards label) = branch_name branch & parameter_text label
line_text (Text characters) = text_line characters
