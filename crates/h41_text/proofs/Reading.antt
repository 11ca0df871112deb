-- Reading the text of a line gives the line again, in its shortest spelling.
use Rattle.std.proofs.Common.{◌≡◌, ℕ, zero, suc, ◌+◌, ◌/◌, ◌%◌, ◌<◌, ◌≤◌, Bool, true, false, ◌&&◌, not, ◌==◌, List, [], ◌∷◌, ◌++◌, map}
use Rattle.std.proofs.Common.{length, Option, Some, None, codes, refl, sym, ◌∙◌, ap, arith, append_assoc}
use Rattle.std.specs.Prelude.{is_none, nat_lt, nat_le}
use Rattle.std.specs.List.{flat_map}
use Rattle.std.specs.Option.{option_map, option_and_then}
use Rattle.std.proofs.lemmas.Bool.{agree_below_at, cond_both, cond-true, cond-false, and_parts, and_from, not-true, eqb-true, ne_eqb}
use Rattle.std.proofs.lemmas.Bool.{le-leb, lt-ltb, false≢true}
use Rattle.std.proofs.lemmas.List.{length-map}
use Rattle.h41_codes.specs.declared.characters.Character.{Character}
use Rattle.h41_codes.specs.declared.characters.Character.TheVariants.{Zero}
use Rattle.h41_codes.specs.declared.functions.Branch.{Branch}
use Rattle.h41_codes.specs.declared.functions.Branch.TheVariants.{GoTo, Execute}
use Rattle.h41_codes.specs.declared.functions.Function.{Function}
use Rattle.h41_codes.specs.declared.functions.Function.TheVariants.{Add}
use Rattle.h41_codes.specs.declared.functions.NameFunction.TheVariants.{GoToName, ExecuteName, Wordless}
use Rattle.h41_codes.specs.declared.functions.ParameterFunction.{ParameterFunction}
use Rattle.h41_codes.specs.declared.functions.ParameterFunction.TheVariants.{Recall, Store, Label}
use Rattle.h41_codes.specs.declared.functions.RegisterFunction.TheVariants.{RecallRegister, StoreRegister}
use Rattle.h41_codes.specs.declared.line.Operand.{Operand}
use Rattle.h41_codes.specs.declared.line.Operand.TheVariants.{Direct, Indirect}
use Rattle.h41_codes.specs.declared.line.Line.{Line}
use Rattle.h41_codes.specs.declared.line.Line.TheVariants.{Null, LocalLabel, Number, Named, Register, Plain, WithOperand, Module}
use Rattle.h41_codes.specs.declared.line.Line.TheVariants.{BranchIndirect, ShortGoTo, GlobalLabel, End, FinalEnd, BranchTo, Text}
use Rattle.h41_codes.specs.ByteGrammar.{IsBytes, IsLine, IsOperand}
use Rattle.h41_codes.specs.Canon.{canonical_line}
use Rattle.h41_lines.specs.Characters.{two_digits, is_plain, escape_of, character_text}
use Rattle.h41_lines.proofs.HexadecimalDigits.{read_hexadecimal}
use Rattle.h41_text.specs.declared.words.LeadingWord.{LeadingWord}
use Rattle.h41_text.specs.declared.words.LeadingWord.TheVariants as word
use Rattle.h41_text.specs.Names.{function_name, parameter_function_name, name_function_name, branch_name, character_byte}
use Rattle.h41_text.specs.LineText.{line_text, parameter_text, operand_text, number_line, character_quoted, quoted_text, text_line, ◌&◌}
use Rattle.h41_text.specs.LineReading.{HasText}
use Rattle.h41_text.specs.private.TextParts.{word_text, word_line, operand_of, operand_from, behind_ind, two_digits_of, module_line}
use Rattle.h41_text.specs.private.TextParts.{first_character, unquoted_text, at_most, begins_with, branch_line, character_of, characters_of}
use Rattle.h41_text.specs.private.TextParts.{number_of, parts_at_blank, cut_line, or_else, minus_line, unquoted_line, candidate_line}
use Rattle.h41_text.proofs.Canonical as canonical_text
use Rattle.h41_text.proofs.Finding.{is_found, parameter_found, number_none}
use Rattle.h41_text.proofs.Unquoting.{unquoted_more, unquoted_end}

-- A character in quotes is read again.
escaped_again : (byte : ℕ) (rest : List ℕ) → byte < 256 → first_character (escape_of byte ++ rest) ≡ Some (byte, rest)
escaped_again byte rest inside = ap (option_map (λ character. (character, rest))) (read_hexadecimal 2 byte (omega arith) inside)

plain_again : (byte : ℕ) (rest : List ℕ) → (byte == 0x22) ≡ false → is_plain byte ≡ true → first_character (byte ∷ rest) ≡ Some (byte, rest)
plain_again byte rest quote plain =
    let parts = and_parts _ (not (byte == 0x5C)) plain in
    cond-false (byte == 0x22) _ _ quote ∙ cond-false (byte == 0x5C) _ _ (not-true _ parts.1)

shown_again : (byte : ℕ) (rest : List ℕ) → byte < 256 → (byte == 0x22) ≡ false
    → first_character (character_text byte ++ rest) ≡ Some (byte, rest)
shown_again byte rest inside quote =
    cond_both (is_plain byte) (byte ∷ []) (escape_of byte)
    (λ text. first_character (text ++ rest) ≡ Some (byte, rest)) (plain_again byte rest quote)
    (λ other. escaped_again byte rest inside)

first_again : (byte : ℕ) (rest : List ℕ) → byte < 256 → first_character (character_quoted byte ++ rest) ≡ Some (byte, rest)
first_again byte rest inside =
    cond_both (byte == 0x22) (escape_of byte) (character_text byte) (λ text. first_character (text ++ rest) ≡ Some (byte, rest))
    (λ quote. escaped_again byte rest inside) (shown_again byte rest inside)

-- All characters in quotes are read again.
unquoted_again : (most : ℕ) (characters : List ℕ) → length characters ≤ most → IsBytes characters
    → unquoted_text most (flat_map character_quoted characters ++ 0x22 ∷ []) ≡ characters
unquoted_again most [] room bytes = unquoted_end most (0x22 ∷ []) refl
unquoted_again zero (byte ∷ more) room bytes = absurd (omega arith)
unquoted_again (suc most) (byte ∷ more) room bytes =
    let rest = flat_map character_quoted more ++ 0x22 ∷ [] in
    ap (unquoted_text (suc most)) (append_assoc (character_quoted byte) (flat_map character_quoted more) (0x22 ∷ []))
    ∙ unquoted_more (suc most) most (character_quoted byte ++ rest) byte rest (omega arith) (first_again byte rest (bytes 0 (omega arith)))
    ∙ ap (λ characters. byte ∷ characters) (unquoted_again most more (omega arith) (λ index inside. bytes (suc index) (omega arith)))

at_most_all : (most : ℕ) (characters : List ℕ) → length characters ≤ most → at_most most characters ≡ Some characters
at_most_all most characters room = cond-true (nat_le (length characters) most) _ _ (le-leb _ most room)

-- A text line is read again.
quoted_again : (characters : List ℕ) → length characters ≤ 15 → IsBytes characters
    → candidate_line (quoted_text characters) ≡ Some (Text characters)
quoted_again characters room bytes =
    ap (λ read. option_map Text (at_most 15 read)) (unquoted_again 15 characters room bytes)
    ∙ ap (option_map Text) (at_most_all 15 characters room)

appended_again : (characters : List ℕ) → length characters ≤ 14 → IsBytes characters
    → candidate_line (0x3E ∷ quoted_text characters) ≡ Some (Text (0x7F ∷ characters))
appended_again characters room bytes =
    ap (λ read. option_map Text (at_most 15 (0x7F ∷ read))) (unquoted_again 14 characters room bytes)
    ∙ ap (option_map Text) (at_most_all 15 (0x7F ∷ characters) (omega arith))

text_again : (characters : List ℕ) → length characters ≤ 15 → IsBytes characters
    → candidate_line (text_line characters) ≡ Some (Text characters)
text_again [] room bytes = quoted_again [] room bytes
text_again (first ∷ rest) room bytes =
    cond_both (first == 0x7F) (0x3E ∷ quoted_text rest) (quoted_text (first ∷ rest))
    (λ text. candidate_line text ≡ Some (Text (first ∷ rest)))
    (λ append. appended_again rest (omega arith) (λ index inside. bytes (suc index) (omega arith))
    ∙ ap (λ byte. Some (Text (byte ∷ rest))) (sym (eqb-true first 0x7F append)))
    (λ other. quoted_again (first ∷ rest) room bytes)

-- A text that is no number is separated at its space.
cut_again : (text : List ℕ) → minus_line text ≡ None → characters_of text ≡ None → unquoted_line text ≡ cut_line text (parts_at_blank text)
cut_again text minus none =
    ap (λ line. or_else line (or_else (number_of text) (cut_line text (parts_at_blank text)))) minus
    ∙ ap (λ line. or_else line (cut_line text (parts_at_blank text))) (number_none text none)

-- A word and its operand are read again.
worded_again : (word : LeadingWord) (operand : List ℕ) → candidate_line (word_text word & operand) ≡ word_line word operand
worded_again (word.Function Recall) operand = cut_again (parameter_function_name Recall & operand) refl refl
worded_again (word.Function function) operand = cut_again (parameter_function_name function & operand) refl refl
worded_again (word.Branch GoTo) operand = cut_again (branch_name GoTo & operand) refl refl
worded_again (word.Branch Execute) operand = cut_again (branch_name Execute & operand) refl refl
worded_again word.Wordless operand = cut_again (name_function_name Wordless & operand) refl refl
worded_again word.Module operand = cut_again (codes "XROM" & operand) refl refl

-- Operands are read again.
leads_nowhere : ℕ → Bool
leads_nowhere number = is_none (behind_ind (parameter_text number))

none_again : {A : Type 0} (found : Option A) → is_none found ≡ true → found ≡ None
none_again None same = refl
none_again (Some item) same = absurd (false≢true same)

direct_again : (number : ℕ) → number < 128 → behind_ind (parameter_text number) ≡ None
unfolding leads_nowhere
direct_again number inside = none_again _ (agree_below_at leads_nowhere (λ n. true) 128 number refl inside)

operand_again : (operand : Operand) → IsOperand operand → operand_of (operand_text operand) ≡ Some operand
operand_again (Direct number) inside =
    ap (operand_from (parameter_text number)) (direct_again number inside) ∙ ap (option_map Direct) (parameter_found number inside)
operand_again (Indirect number) inside = ap (option_map Indirect) (parameter_found number inside)

begins_quoted : ℕ → Bool
begins_quoted number = begins_with 0x22 (parameter_text number)

operand_begins : (operand : Operand) → IsOperand operand → begins_with 0x22 (operand_text operand) ≡ false
unfolding begins_quoted
operand_begins (Direct number) inside = agree_below_at begins_quoted (λ n. false) 128 number refl inside
operand_begins (Indirect number) inside = refl

-- A function and its operand are read again.
function_again : (function : ParameterFunction) (operand : Operand) → IsOperand operand
    → candidate_line (line_text (WithOperand function operand)) ≡ Some (WithOperand function operand)
function_again function operand inside =
    worded_again (word.Function function) (operand_text operand)
    ∙ cond-false (begins_with 0x22 (operand_text operand)) _ _ (operand_begins operand inside)
    ∙ ap (option_map (WithOperand function)) (operand_again operand inside)

branch_again : (branch : Branch) (operand : Operand) → IsOperand operand
    → candidate_line (word_text (word.Branch branch) & operand_text operand) ≡ Some (branch_line branch operand)
branch_again branch operand inside =
    worded_again (word.Branch branch) (operand_text operand)
    ∙ cond-false (begins_with 0x22 (operand_text operand)) _ _ (operand_begins operand inside)
    ∙ ap (option_map (branch_line branch)) (operand_again operand inside)

-- The two numbers of an XROM are read again.
finds_two : ℕ → Bool
finds_two number = elim (two_digits_of (48 + number / 10) (48 + number % 10)) [ None ↦ false | Some other ↦ other == number ]

two_again : (number : ℕ) → number < 100 → two_digits_of (48 + number / 10) (48 + number % 10) ≡ Some number
unfolding finds_two
two_again number inside = is_found number _ (agree_below_at finds_two (λ n. true) 100 number refl inside)

module_again : (number entry : ℕ) → number < 32 → entry < 64 → candidate_line (line_text (Module number entry)) ≡ Some (Module number entry)
module_again number entry inside small =
    worded_again word.Module (two_digits number ++ 0x2C ∷ two_digits entry)
    ∙ cond-false (48 + number / 10 == 0x22) _ _ (ne_eqb _ 0x22 (λ same. omega (arith, same)))
    ∙ ap (option_and_then (λ n. option_and_then (λ e. module_line n e) (two_digits_of (48 + entry / 10) (48 + entry % 10))))
    (two_again number (omega arith))
    ∙ ap (option_and_then (λ e. module_line number e)) (two_again entry (omega arith))
    ∙ cond-true (nat_lt number 32 && nat_lt entry 64) _ _ (and_from _ _ (lt-ltb number 32 inside) (lt-ltb entry 64 small))

-- A number is read again.
character_again : (character : Character) → character_of (character_byte character) ≡ Some character
character_again Zero = refl
character_again character = refl

characters_again : (characters : List Character) → characters_of (map character_byte characters) ≡ Some characters
characters_again [] = refl
characters_again (character ∷ more) =
    ap (option_and_then (λ first. option_map (λ rest. first ∷ rest) (characters_of (map character_byte more)))) (character_again character)
    ∙ ap (option_map (λ rest. character ∷ rest)) (characters_again more)

number_again : (characters : List Character) → 1 ≤ length characters → length characters ≤ 16
    → number_of (map character_byte characters) ≡ Some (Number characters)
number_again characters some most =
    let size = length-map characters character_byte in
    cond-true (nat_lt 0 (length (map character_byte characters)) && nat_le (length (map character_byte characters)) 16) _ _
    (and_from _ _ (lt-ltb 0 (length (map character_byte characters)) (omega (arith, size)))
    (le-leb (length (map character_byte characters)) 16 (omega (arith, size))))
    ∙ ap (option_map Number) (characters_again characters)

-- A text that is no lone minus, and is a number.
number_first : (text : List ℕ) (line : Line) → minus_line text ≡ None → number_of text ≡ Some line → unquoted_line text ≡ Some line
number_first text line minus number =
    ap (λ first. or_else first (or_else (number_of text) (cut_line text (parts_at_blank text)))) minus
    ∙ ap (λ first. or_else first (cut_line text (parts_at_blank text))) number

several_again : (first second : Character) (more : List Character) → length more ≤ 14
    → candidate_line (number_line (first ∷ second ∷ more)) ≡ Some (Number (first ∷ second ∷ more))
several_again Zero second more most =
    number_first (map character_byte (Zero ∷ second ∷ more)) (Number (Zero ∷ second ∷ more))
    refl (number_again (Zero ∷ second ∷ more) (omega arith) (omega arith))
several_again first second more most =
    number_first (map character_byte (first ∷ second ∷ more)) (Number (first ∷ second ∷ more))
    refl (number_again (first ∷ second ∷ more) (omega arith) (omega arith))

number_line_again : (characters : List Character) → 1 ≤ length characters → length characters ≤ 16
    → candidate_line (number_line characters) ≡ Some (Number characters)
number_line_again [] some most = absurd (omega arith)
number_line_again (Zero ∷ []) some most = refl
number_line_again (character ∷ []) some most = refl
number_line_again (first ∷ second ∷ more) some most = several_again first second more (omega arith)

-- A function without a parameter is read again.
plain_line_again : (function : Function) → candidate_line (function_name function) ≡ Some (Plain function)
plain_line_again Add = refl
plain_line_again function = refl

-- A name in quotes is read again.
name_again : (word : LeadingWord) (function : List ℕ → Line) (most : ℕ) (name : List ℕ) → most ≤ 15 → length name ≤ most → IsBytes name
    → ((text : List ℕ) → word_line word (0x22 ∷ text) ≡ option_map function (at_most most (unquoted_text 15 text)))
    → candidate_line (word_text word & quoted_text name) ≡ Some (function name)
name_again word function most name few room bytes reads =
    worded_again word (quoted_text name) ∙ reads (flat_map character_quoted name ++ 0x22 ∷ [])
    ∙ ap (λ read. option_map function (at_most most read)) (unquoted_again 15 name (omega arith) bytes)
    ∙ ap (option_map function) (at_most_all most name room)

-- The line in its longest spelling, without the bits that only the calculator uses.
longest : Line → Line
longest (LocalLabel label) = WithOperand Label (Direct label)
longest (Register RecallRegister register) = WithOperand Recall (Direct register)
longest (Register StoreRegister register) = WithOperand Store (Direct register)
longest (ShortGoTo label distance) = BranchTo GoTo 0 false label
longest (GlobalLabel link key name) = GlobalLabel 0 0 name
longest (End link marks) = End 0 0
longest (FinalEnd link marks) = FinalEnd 0 0
longest (BranchTo branch distance backwards label) = BranchTo branch 0 false label
longest line = line

-- Two digits are read as a parameter.
short_again : (name : List ℕ) (number most : ℕ) (line : Line) → most < 101 → number < most
    → candidate_line (name & parameter_text number) ≡ Some line → candidate_line (name & two_digits number) ≡ Some line
short_again name number most line few inside again =
    ap (λ text. candidate_line (name & text)) (canonical_text.two_digits_of number most few (lt-ltb number most inside)) ∙ again

longest_again : (line : Line) → HasText line → candidate_line (line_text line) ≡ Some (longest line)
unfolding longest
longest_again Null has = absurd (has.shown refl)
longest_again (LocalLabel label) has =
    short_again (parameter_function_name Label) label 15 _ (omega arith) has.valid
    (function_again Label (Direct label) (omega (arith, has.valid)))
longest_again (Number characters) has = number_line_again characters has.valid.0 has.valid.1
longest_again (Named GoToName name) has =
    name_again (word.Branch GoTo) (Named GoToName) 15 name (omega arith) has.valid.fits has.valid.bytes (λ text. refl)
longest_again (Named ExecuteName name) has =
    name_again (word.Branch Execute) (Named ExecuteName) 15 name (omega arith) has.valid.fits has.valid.bytes (λ text. refl)
longest_again (Named Wordless name) has =
    name_again word.Wordless (Named Wordless) 15 name (omega arith) has.valid.fits has.valid.bytes (λ text. refl)
longest_again (Register RecallRegister register) has =
    short_again (parameter_function_name Recall) register 16 _ (omega arith) has.valid
    (function_again Recall (Direct register) (omega (arith, has.valid)))
longest_again (Register StoreRegister register) has =
    short_again (parameter_function_name Store) register 16 _ (omega arith) has.valid
    (function_again Store (Direct register) (omega (arith, has.valid)))
longest_again (Plain function) has = plain_line_again function
longest_again (WithOperand function operand) has = function_again function operand has.valid
longest_again (Module number entry) has = module_again number entry has.valid.0 has.valid.1
longest_again (BranchIndirect GoTo register) has = branch_again GoTo (Indirect register) has.valid
longest_again (BranchIndirect Execute register) has = branch_again Execute (Indirect register) has.valid
longest_again (ShortGoTo label distance) has =
    short_again (branch_name GoTo) label 15 _ (omega arith) has.valid.0 (branch_again GoTo (Direct label) (omega (arith, has.valid)))
longest_again (GlobalLabel link key name) has =
    name_again (word.Function Label) (GlobalLabel 0 0) 14 name (omega arith) has.valid.2.fits has.valid.2.bytes (λ text. refl)
longest_again (End link marks) has = refl
longest_again (FinalEnd link marks) has = refl
longest_again (BranchTo GoTo distance backwards label) has = branch_again GoTo (Direct label) has.valid.1
longest_again (BranchTo Execute distance backwards label) has = branch_again Execute (Direct label) has.valid.1
longest_again (Text characters) has = text_again characters has.valid.fits has.valid.bytes

-- The longest spelling has the same canonical line.
longest_canonical : (line : Line) → IsLine line → canonical_line (longest line) ≡ canonical_line line
unfolding longest
longest_canonical (LocalLabel label) valid = cond-true (nat_lt label 15) _ _ (lt-ltb label 15 valid)
longest_canonical (Register RecallRegister register) valid = cond-true (nat_lt register 16) _ _ (lt-ltb register 16 valid)
longest_canonical (Register StoreRegister register) valid = cond-true (nat_lt register 16) _ _ (lt-ltb register 16 valid)
longest_canonical (ShortGoTo label distance) valid = cond-true (nat_lt label 15) _ _ (lt-ltb label 15 valid.0)
longest_canonical Null valid = refl
longest_canonical line valid = refl

pub reading_again : (line : Line) → HasText line → option_map canonical_line (candidate_line (line_text line)) ≡ Some (canonical_line line)
reading_again line has = ap (option_map canonical_line) (longest_again line has) ∙ ap Some (longest_canonical line has.valid)
