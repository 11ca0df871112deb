-- The parts into which the reader separates a text. Only private functions use these definitions;
-- the public contract says which line a text is read as without them.
use Rattle.std.specs.Prelude.{◌≢◌, ◌<◌, ℕ, zero, suc, ◌+◌, ◌-◌, ◌*◌, Bool, false, ◌&&◌, ◌==◌}
use Rattle.std.specs.Prelude.{nat_lt, nat_le, List, [], ◌∷◌, ◌++◌, map, length, drop, Option, Some}
use Rattle.std.specs.Prelude.{None, if◌then◌else◌, codes}
use Rattle.std.specs.List.{range_with_len}
use Rattle.std.specs.Option.{option_map, option_and_then}
use Rattle.std.specs.Str.{bytes_eq}
use Rattle.h41_codes.specs.declared.characters.Character.{Character}
use Rattle.h41_codes.specs.declared.characters.Character.TheVariants.{Zero, One, Two, Three, Four}
use Rattle.h41_codes.specs.declared.characters.Character.TheVariants.{Five, Six, Seven, Eight, Nine}
use Rattle.h41_codes.specs.declared.characters.Character.TheVariants.{Point, Exponent, Minus}
use Rattle.h41_codes.specs.declared.functions.Branch.{Branch}
use Rattle.h41_codes.specs.declared.functions.Branch.TheVariants.{GoTo, Execute}
use Rattle.h41_codes.specs.declared.functions.NameFunction.TheVariants.{GoToName, ExecuteName}
use Rattle.h41_codes.specs.declared.functions.NameFunction.TheVariants.{Wordless}
use Rattle.h41_codes.specs.declared.functions.Function.{Function}
use Rattle.h41_codes.specs.declared.functions.Function.TheVariants.{Subtract}
use Rattle.h41_codes.specs.declared.functions.ParameterFunction.TheVariants.{Label}
use Rattle.h41_codes.specs.declared.line.Operand.{Operand}
use Rattle.h41_codes.specs.declared.line.Operand.TheVariants.{Direct, Indirect}
use Rattle.h41_codes.specs.declared.line.Line.{Line}
use Rattle.h41_codes.specs.declared.line.Line.TheVariants.{Number, Named, Plain, WithOperand}
use Rattle.h41_codes.specs.declared.line.Line.TheVariants.{Module, BranchIndirect, GlobalLabel, End}
use Rattle.h41_codes.specs.declared.line.Line.TheVariants.{FinalEnd, BranchTo, Text}
use Rattle.h41_codes.specs.Functions.{functions, parameter_functions}
use Rattle.h41_codes.specs.Counts.{parameter_count, module_count, entry_count, text_most, name_most}
use Rattle.h41_codes.specs.Counts.{number_most}
use Rattle.h41_lines.specs.Numbers.{hexadecimal}
use Rattle.h41_text.specs.declared.words.LeadingWord.{LeadingWord}
use Rattle.h41_text.specs.declared.words.LeadingWord.TheVariants as word
use Rattle.h41_text.specs.Names.{function_name, parameter_function_name, branch_name}
use Rattle.h41_text.specs.Names.{name_function_name, character_byte}
use Rattle.h41_text.specs.LineText.{parameter_text}

-- The item of a list that has this text.
abbrev pub with_text : {A : Type 0} → (A → List ℕ) → List A → List ℕ → Option A
with_text text_of [] text = None
with_text text_of (item ∷ items) text =
    if bytes_eq (text_of item) text then Some item else with_text text_of items text

-- The function without a parameter that has this name.
abbrev pub function_of : List ℕ → Option Function
function_of name = with_text function_name functions name

-- The name of a leading word, which precedes an operand.
abbrev pub word_text : LeadingWord → List ℕ
word_text (word.Function function) = parameter_function_name function
word_text (word.Branch branch) = branch_name branch
word_text word.Wordless = name_function_name Wordless
word_text word.Module = codes "XROM"

-- All leading words.
abbrev pub words : List LeadingWord
words =
    word.Branch GoTo ∷ word.Branch Execute ∷ word.Wordless ∷ word.Module
    ∷ map word.Function parameter_functions

-- The leading word with this name.
abbrev pub word_of : List ℕ → Option LeadingWord
word_of name = with_text word_text words name

-- The parameter with this text.
abbrev pub parameter_of : List ℕ → Option ℕ
parameter_of text = with_text parameter_text (range_with_len 0 parameter_count) text

-- No parameter has this text.
abbrev pub IsNoParameter : List ℕ → Type 0
IsNoParameter text = (number : ℕ) → number < parameter_count → parameter_text number ≢ text

-- The text after IND and a space.
abbrev pub behind_ind : List ℕ → Option (List ℕ)
behind_ind (i ∷ n ∷ d ∷ blank ∷ rest) =
    if i == 73 && n == 78 && d == 68 && blank == 32 then Some rest else None
behind_ind text = None

-- The operand of a text; it is indirect if the text begins with IND and a space.
abbrev pub operand_from : List ℕ → Option (List ℕ) → Option Operand
operand_from text (Some rest) = option_map Indirect (parameter_of rest)
operand_from text None = option_map Direct (parameter_of text)

-- The operand of a text.
abbrev pub operand_of : List ℕ → Option Operand
operand_of text = operand_from text (behind_ind text)

-- An ASCII digit.
abbrev pub is_digit : ℕ → Bool
is_digit byte = nat_le 48 byte && nat_le byte 57

-- The number of two decimal digits.
abbrev pub two_digits_of : ℕ → ℕ → Option ℕ
two_digits_of tens ones =
    if is_digit tens && is_digit ones then Some ((tens - 48) * 10 + (ones - 48)) else None

-- The XROM of two numbers, if they are in their ranges.
abbrev pub module_line : ℕ → ℕ → Option Line
module_line number entry =
    if nat_lt number module_count && nat_lt entry entry_count then Some (Module number entry)
    else None

-- The XROM of a text: two numbers of two digits each, separated by a comma.
abbrev pub module_of : List ℕ → Option Line
module_of (a ∷ b ∷ comma ∷ c ∷ d ∷ []) =
    if comma == 0x2C
    then option_and_then
    (λ number. option_and_then (λ entry. module_line number entry) (two_digits_of c d))
    (two_digits_of a b)
    else None
module_of text = None

-- The character after a \, which is two hexadecimal digits, and what follows it.
abbrev pub behind_backslash : List ℕ → Option (ℕ × List ℕ)
behind_backslash (high ∷ low ∷ rest) =
    option_map (λ character. (character, rest)) (hexadecimal 2 2 (high ∷ low ∷ []))
behind_backslash text = None

-- The first character in quotes and what follows it; none if the quotes end.
abbrev pub first_character : List ℕ → Option (ℕ × List ℕ)
first_character [] = None
first_character (byte ∷ rest) =
    if byte == 0x22 then None else if byte == 0x5C then behind_backslash rest else Some (byte, rest)

-- The characters in quotes, at most this many.
abbrev pub unquoted_text : ℕ → List ℕ → List ℕ
unquoted_text zero text = []
unquoted_text (suc most) text =
    elim (first_character text) [ None ↦ [] | Some parts ↦ parts.0 ∷ unquoted_text most parts.1 ]

-- Characters, if there are at most this many.
abbrev pub at_most : ℕ → List ℕ → Option (List ℕ)
at_most most characters = if nat_le (length characters) most then Some characters else None

-- The line of a word and a text in quotes.
abbrev pub named_line : LeadingWord → List ℕ → Option Line
named_line (word.Function Label) text = option_map (GlobalLabel 0 0) (at_most name_most text)
named_line (word.Branch GoTo) text = option_map (Named GoToName) (at_most text_most text)
named_line (word.Branch Execute) text = option_map (Named ExecuteName) (at_most text_most text)
named_line word.Wordless text = option_map (Named Wordless) (at_most text_most text)
named_line word text = None

-- The branch with an operand that is no text.
abbrev pub branch_line : Branch → Operand → Line
branch_line branch (Direct label) = BranchTo branch 0 false label
branch_line branch (Indirect register) = BranchIndirect branch register

-- The line of a word and an operand that is no text.
abbrev pub operand_line : LeadingWord → List ℕ → Option Line
operand_line (word.Function function) operand =
    option_map (WithOperand function) (operand_of operand)
operand_line (word.Branch branch) operand = option_map (branch_line branch) (operand_of operand)
operand_line word.Wordless operand = None
operand_line word.Module operand = module_of operand

-- Whether a text begins with this byte.
abbrev pub begins_with : ℕ → List ℕ → Bool
begins_with byte [] = false
begins_with byte (first ∷ rest) = first == byte

-- The line of a word and what follows its space, which is a text if it begins with a quote.
abbrev pub word_line : LeadingWord → List ℕ → Option Line
word_line word behind =
    if begins_with 0x22 behind then named_line word (unquoted_text text_most (drop 1 behind))
    else operand_line word behind

-- The characters of numbers.
abbrev pub characters : List Character
characters =
    Zero ∷ One ∷ Two ∷ Three ∷ Four ∷ Five ∷ Six ∷ Seven ∷ Eight ∷ Nine ∷ Point ∷ Exponent ∷ Minus
    ∷ []

-- The character of a number that is this byte in ASCII.
abbrev pub character_of : ℕ → Option Character
character_of byte = with_text (λ character. character_byte character ∷ []) characters (byte ∷ [])

-- The characters of numbers in a text, if it has no others.
abbrev pub characters_of : List ℕ → Option (List Character)
characters_of [] = Some []
characters_of (byte ∷ text) =
    option_and_then (λ character. option_map (λ more. character ∷ more) (characters_of text))
    (character_of byte)

-- The number of a text, with 1 to 16 characters.
abbrev pub number_of : List ℕ → Option Line
number_of text =
    if nat_lt 0 (length text) && nat_le (length text) number_most
    then option_map Number (characters_of text)
    else None

-- The first of two lines if there is one, otherwise the second.
abbrev pub or_else : Option Line → Option Line → Option Line
or_else (Some line) other = Some line
or_else None other = other

-- END or .END., by its name.
abbrev pub end_line : List ℕ → Option Line
end_line name =
    if bytes_eq name (codes "END") then Some (End 0 0)
    else if bytes_eq name (codes ".END.") then Some (FinalEnd 0 0) else None

-- The line of a name without an operand.
abbrev pub lone_line : List ℕ → Option Line
lone_line name = or_else (end_line name) (option_map Plain (function_of name))

-- The text before the first space, and the text after it.
abbrev pub parts_at_blank : List ℕ → Option (List ℕ × List ℕ)
parts_at_blank [] = None
parts_at_blank (byte ∷ text) =
    if byte == 0x20 then Some ([], text)
    else option_map (λ parts. (byte ∷ parts.0, parts.1)) (parts_at_blank text)

-- The line of a text that begins with a word, or is a name.
abbrev pub cut_line : List ℕ → Option (List ℕ × List ℕ) → Option Line
cut_line text None = lone_line text
cut_line text (Some parts) = option_and_then (λ word. word_line word parts.1) (word_of parts.0)

-- Characters, followed by those in quotes, up to 15 together.
abbrev pub text_behind : List ℕ → List ℕ → List ℕ
text_behind front text = front ++ unquoted_text (text_most - length front) text

-- The text line of these characters, followed by those in quotes.
abbrev pub alpha_line : List ℕ → List ℕ → Option Line
alpha_line front text = option_map Text (at_most text_most (text_behind front text))

-- A lone minus is the function, and NEG the number of a lone minus.
abbrev pub minus_line : List ℕ → Option Line
minus_line text =
    if bytes_eq text (codes "-") then Some (Plain Subtract)
    else if bytes_eq text (codes "NEG") then Some (Number (Minus ∷ [])) else None

-- The line of a text that does not begin with a quote.
abbrev pub unquoted_line : List ℕ → Option Line
unquoted_line text =
    or_else (minus_line text) (or_else (number_of text) (cut_line text (parts_at_blank text)))

-- The only line that can have this text.
abbrev pub candidate_line : List ℕ → Option Line
candidate_line text =
    if begins_with 0x22 text then alpha_line [] (drop 1 text)
    else if begins_with 0x3E text && begins_with 0x22 (drop 1 text)
    then alpha_line (0x7F ∷ []) (drop 2 text)
    else unquoted_line text
