-- The functions of a module, as HP's modules list them. Word 0 of a page is its XROM number, word 1
-- the number of its table entries, and the table follows with two words for each entry. The name of
-- a microcode function is before its words; that of a keystroke function is the name of its label.
-- All of this is read in bank 1. The definition of a name, and the meaning of a number out of
-- range, are this project's choices.
use Rattle.std.specs.Prelude.{ℕ, ◌+◌, ◌-◌, ◌*◌, ◌/◌, ◌%◌, ◌^◌, ◌<◌, ◌≤◌, Bool, false, ◌&&◌, List}
use Rattle.std.specs.Prelude.{[], ◌∷◌, map, find, min, slice_index, nat_lt, nat_le, ◌==◌, bytes_eq}
use Rattle.std.specs.Prelude.{if◌then◌else◌, Option, Some, None, option_map, option_and_then}
use Rattle.std.specs.Bool.{then_some}
use Rattle.std.specs.List.{filter, flat_map, range_with_len}
use Rattle.std.specs.Option.{option_map_or}
use Rattle.h41_words.specs.declared.rows.Bank.TheVariants.{First}
use Rattle.h41_pages.specs.Addresses.{page_count, page_size}
use Rattle.h41_pages.specs.KeystrokeCode.{code_from, label_name}
use Rattle.h41_pages.specs.PageMap.{PageMap, PageImage, image_at}
use Rattle.h41_pages.specs.declared.functions.Entry.{Entry}
use Rattle.h41_pages.specs.declared.functions.ModuleFunction.{ModuleFunction}

-- The XROM number of a page.
abbrev pub number_in : List ℕ → ℕ
number_in words = slice_index words 0

-- Whether the XROM number is 1 to 31 and the number of entries at most 64; otherwise the page has
-- no functions.
abbrev pub has_functions : List ℕ → Bool
has_functions words =
    nat_le 1 (number_in words) && nat_le (number_in words) 31 && nat_le (slice_index words 1) 64

-- The number of table entries of a page.
abbrev pub entry_count : List ℕ → ℕ
entry_count words = if has_functions words then slice_index words 1 else 0

-- The first of the two words of a table entry.
abbrev pub first_word : List ℕ → ℕ → ℕ
first_word words entry = slice_index words (2 + 2 * entry)

-- The second of the two words of a table entry.
abbrev pub second_word : List ℕ → ℕ → ℕ
second_word words entry = slice_index words (3 + 2 * entry)

-- Whether the entry is that of a keystroke function: bit 9 of its first word.
abbrev pub is_keystroke : List ℕ → ℕ → Bool
is_keystroke words entry = first_word words entry / 2 ^ 9 % 2 == 1

-- The offset of the function of an entry: the low four bits of its first word and the low byte of
-- its second.
abbrev pub entry_offset : List ℕ → ℕ → ℕ
entry_offset words entry = first_word words entry % 16 * 256 + second_word words entry % 256

-- The word at this distance before an offset of a page; the nearest has distance 0.
abbrev pub word_before : List ℕ → ℕ → ℕ → ℕ
word_before words offset distance = slice_index words (offset - 1 - distance)

-- The words before an offset that can contain a name: the eleven nearest, the nearest first.
abbrev pub words_before : List ℕ → ℕ → List ℕ
words_before words offset = map (word_before words offset) (range_with_len 0 (min offset 11))

-- The character of a word of a name. The low six bits of the word are the character's ASCII code,
-- 20 to 5F, modulo 64.
abbrev pub character : ℕ → ℕ
character word = if nat_lt (word % 64) 0x20 then word % 64 + 0x40 else word % 64

-- Whether a word is the last of a name: its bit 7.
abbrev pub is_last : ℕ → Bool
is_last word = word / 2 ^ 7 % 2 == 1

-- The name that words spell: the characters up to the one that is marked as the last, or none if
-- none is marked.
abbrev pub spelled_name : List ℕ → Option (List ℕ)
spelled_name [] = None
spelled_name (word ∷ words) =
    if is_last word then Some (character word ∷ [])
    else option_map (λ name. character word ∷ name) (spelled_name words)

-- The name of an entry: for microcode the name before it, for a keystroke function that of the
-- label with which it begins.
abbrev pub entry_name : List ℕ → ℕ → Option (List ℕ)
entry_name words entry =
    if is_keystroke words entry then label_name (code_from words (entry_offset words entry))
    else spelled_name (words_before words (entry_offset words entry))

-- The function of an entry: its XROM number, its entry number and its name.
abbrev pub function_in : List ℕ → ℕ → ModuleFunction
function_in words entry =
    record { number = number_in words; entry = entry; name = entry_name words entry }

-- The pages in their order.
unfoldable pub all_pages : List ℕ
all_pages = range_with_len 0 page_count

-- The functions of an image.
abbrev pub functions_of : List ℕ → List ModuleFunction
functions_of words = map (function_in words) (range_with_len 0 (entry_count words))

-- The image in bank 1 of a page.
abbrev pub first_image : PageMap → ℕ → Option PageImage
first_image pages page = image_at pages page First

-- The keystroke code of a page, with a byte for each of its words. There is none without bank 1.
abbrev pub code_of : PageMap → ℕ → List ℕ
code_of pages page =
    option_map_or (λ image. code_from image.words 0) (first_image pages page) []

-- The offsets of the keystroke functions of an image, in the order of their entries.
abbrev pub keystroke_offsets_in : List ℕ → List ℕ
keystroke_offsets_in words =
    map (entry_offset words) (filter (is_keystroke words) (range_with_len 0 (entry_count words)))

-- The offsets of the keystroke functions of a page.
abbrev pub keystroke_offsets : PageMap → ℕ → List ℕ
keystroke_offsets pages page =
    option_map_or (λ image. keystroke_offsets_in image.words) (first_image pages page) []

-- The functions of a page.
abbrev pub functions_at : PageMap → ℕ → List ModuleFunction
functions_at pages page =
    option_map_or (λ image. functions_of image.words) (first_image pages page) []

-- The functions of all pages, in the order of the pages and then of their entries.
abbrev pub functions : PageMap → List ModuleFunction
functions pages = flat_map (functions_at pages) all_pages

-- Whether a function has this name.
abbrev pub is_named : List ℕ → ModuleFunction → Bool
is_named name function = option_map_or (λ own. bytes_eq own name) function.name false

-- The XROM number and the entry number of a function, by which it is called.
abbrev pub numbers_of : ModuleFunction → ℕ × ℕ
numbers_of function = (function.number, function.entry)

-- The numbers of the first function of a list that has a name.
abbrev pub found_in : List ℕ → List ModuleFunction → Option (ℕ × ℕ)
found_in name functions = option_map numbers_of (find (is_named name) functions)

-- The numbers of the function with a name.
abbrev pub function_of_name : PageMap → List ℕ → Option (ℕ × ℕ)
function_of_name pages name = found_in name (functions pages)

-- The numbers are those that a function can have: an XROM number from 1 to 31, an entry number from
-- 0 to 63.
abbrev pub AreNumbers : ℕ × ℕ → Type 0
AreNumbers numbers = (1 ≤ numbers.0) × (numbers.0 < 32) × (numbers.1 < 64)

-- Whether an image has this number in its word 0.
abbrev pub is_numbered : ℕ → Option PageImage → Bool
is_numbered number image = option_map_or (λ plugged. number_in plugged.words == number) image false

-- The lowest page with an XROM number.
abbrev pub page_numbered : PageMap → ℕ → Option ℕ
page_numbered pages number = find (λ page. is_numbered number (first_image pages page)) all_pages

-- An entry of an image in a page: the address of its function, and whether it is a keystroke
-- function. There is none from the page's number of entries on.
abbrev pub entry_of : ℕ → ℕ → PageImage → Option Entry
entry_of page entry image =
    then_some (nat_lt entry (entry_count image.words))
    (record {
      address = page * page_size + entry_offset image.words entry;
      keystroke = is_keystroke image.words entry;
    })

-- An entry of a page.
abbrev pub entry_on : PageMap → ℕ → ℕ → Option Entry
entry_on pages page entry = option_and_then (entry_of page entry) (first_image pages page)

-- The entry with an XROM number and an entry number, in the lowest page with this XROM number.
abbrev pub entry_at : PageMap → ℕ → ℕ → Option Entry
entry_at pages number entry =
    option_and_then (λ page. entry_on pages page entry) (page_numbered pages number)
