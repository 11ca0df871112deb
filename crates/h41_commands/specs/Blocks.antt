-- What the lines of a block contain, by the kind of block, or why they are refused. The language is
-- this project's own.
use Rattle.std.specs.Prelude.{ℕ, ◌-◌, Bool, not, ◌||◌, List, [], ◌++◌, map, length}
use Rattle.std.specs.Prelude.{replicate, filter, flat_map, nat_lt, if◌then◌else◌, Option, Some}
use Rattle.std.specs.Prelude.{None, Result, Ok, Err, is_ok, codes}
use Rattle.std.specs.Result.{result_unwrap_or}
use Rattle.std.specs.List.{list_any, list_all}
use Rattle.std.specs.Str.Parse.{digits_value}
use Rattle.hex.specs.Hex.{decode_of}
use Rattle.hex.specs.declared.error.FromHexError.{FromHexError}
use Rattle.h41_pages.specs.Addresses.{last_word, page_size}
use Rattle.h41_pages.specs.Images.{is_image_bytes, words_in}
use Rattle.h41_commands.specs.declared.commands.BlockKind.{BlockKind}
use Rattle.h41_commands.specs.declared.commands.BlockKind.TheVariants.{Page, Program}
use Rattle.h41_commands.specs.declared.commands.PageKind.TheVariants.{Words, Image, Asm}
use Rattle.h41_commands.specs.declared.commands.ProgramKind.TheVariants.{Bytes, Text}
use Rattle.h41_commands.specs.declared.refusal.LineRefusal.{LineRefusal}
use Rattle.h41_commands.specs.declared.refusal.LineRefusal.TheVariants.{BadImage, BadNumber}
use Rattle.h41_commands.specs.declared.refusal.LineRefusal.TheVariants.{LineTooLong}
use Rattle.h41_lines.specs.Words.{is_blank, words_of}
use Rattle.h41_commands.specs.DeckLines.{is_long, is_skipped}
use Rattle.h41_lines.specs.Numbers.{is_hexadecimal}

-- The words of a block's lines. Empty lines and comments have none.
abbrev pub block_words : List (List ℕ) → List (List ℕ)
block_words lines = flat_map words_of (filter (λ line. not (is_skipped line)) lines)

-- The values of a page's words: BadNumber (51) if a word does not have 1 to 3 hexadecimal digits,
-- otherwise BadImage (04) if there are more words than a page has or one is too great.
abbrev pub word_values : List (List ℕ) → Result (List ℕ) LineRefusal
word_values words =
    if not (list_all (is_hexadecimal 1 3) words) then Err BadNumber
    else (if nat_lt page_size (length words)
    || list_any (λ word. nat_lt last_word (digits_value 16 word)) words
    then Err BadImage
    else Ok (map (digits_value 16) words))

-- A line without its spaces and tabs, which may be anywhere between the digits.
abbrev pub line_digits : List ℕ → List ℕ
line_digits line = filter (λ byte. not (is_blank byte)) line

-- The bytes of a line: two hexadecimal digits each, of either case.
abbrev pub line_bytes : List ℕ → Result (List ℕ) FromHexError
line_bytes line = decode_of (line_digits line)

-- The lines of a block that are not skipped.
abbrev pub said_lines : List (List ℕ) → List (List ℕ)
said_lines lines = filter (λ line. not (is_skipped line)) lines

-- The bytes of lines: BadNumber (51) if a line is not made of bytes.
abbrev pub bytes_values : List (List ℕ) → Result (List ℕ) LineRefusal
bytes_values lines =
    if list_all (λ line. is_ok (line_bytes line)) lines
    then Ok (flat_map (λ line. result_unwrap_or (line_bytes line) []) lines)
    else Err BadNumber

-- The bytes of a block's lines, those that are not skipped.
abbrev pub block_bytes : List (List ℕ) → Result (List ℕ) LineRefusal
block_bytes lines = bytes_values (said_lines lines)

-- The words of an image's bytes: BadImage (04) if the bytes are not an image.
abbrev pub image_content : Result (List ℕ) LineRefusal → Result (List ℕ) LineRefusal
image_content (Ok bytes) = if is_image_bytes bytes then Ok (words_in bytes) else Err BadImage
image_content (Err refusal) = Err refusal

-- A line of a source or a text with its line end. A skipped line is kept empty, so that line
-- numbers remain correct.
abbrev pub source_line : List ℕ → List ℕ
source_line line = (if is_skipped line then [] else line) ++ codes "\n"

-- The source or the text of a block's lines.
abbrev pub block_source : List (List ℕ) → List ℕ
block_source lines = flat_map source_line lines

-- What the lines of a block contain, before it is decided whether they are refused: values of
-- words, bytes, a source or a text. A command without a block has none.
abbrev pub said_by : Option BlockKind → List (List ℕ) → Result (List ℕ) LineRefusal
said_by None lines = Ok []
said_by (Some (Page Words)) lines = word_values (block_words lines)
said_by (Some (Page Image)) lines = block_bytes lines
said_by (Some (Page Asm)) lines = Ok (block_source lines)
said_by (Some (Program Bytes)) lines = block_bytes lines
said_by (Some (Program Text)) lines = Ok (block_source lines)

-- An image is decided as a whole: its value is the words of its bytes.
abbrev pub whole_said : Option BlockKind → Result (List ℕ) LineRefusal → Result (List ℕ) LineRefusal
whole_said None said = said
whole_said (Some (Page Words)) said = said
whole_said (Some (Page Image)) said = image_content said
whole_said (Some (Page Asm)) said = said
whole_said (Some (Program kind)) said = said

-- The values of a block's lines, or why they are refused.
abbrev pub content_of : Option BlockKind → List (List ℕ) → Result (List ℕ) LineRefusal
content_of kind lines = whole_said kind (said_by kind lines)

-- LineTooLong (53) is reported before any other error.
abbrev pub unless_long : Bool → Result (List ℕ) LineRefusal → Result (List ℕ) LineRefusal
unless_long has_long content = if has_long then Err LineTooLong else content

-- The lines that are not too long.
abbrev pub short_lines : List (List ℕ) → List (List ℕ)
short_lines lines = filter (λ line. not (is_long line)) lines

-- The values of a block, or why it is refused.
abbrev pub block_values : Option BlockKind → List (List ℕ) → Result (List ℕ) LineRefusal
block_values kind lines = unless_long (list_any is_long lines) (content_of kind (short_lines lines))

-- The words of a page, filled with 000 to its end.
abbrev pub page_of_words : List ℕ → List ℕ
page_of_words words = words ++ replicate (page_size - length words) 0
