-- What `show functions` and `show image` print. The form is this project's choice.
use Rattle.std.specs.Prelude.{ℕ, ◌*◌, List, [], ◌++◌, take, drop, Option, Some, None, codes}
use Rattle.std.specs.List.{flat_map, range_with_len}
use Rattle.std.specs.Option.{option_map_or}
use Rattle.h41_digits.specs.Register.{hexadecimal_text}
use Rattle.h41_pages.specs.Images.{image_bytes}
use Rattle.h41_pages.specs.PageMap.{PageMap, bank_numbered, image_at}
use Rattle.h41_pages.specs.declared.functions.ModuleFunction.{ModuleFunction}
use Rattle.h41_lines.specs.Characters.{characters_text, two_digits}

-- The characters of a name, or `-` if there is none.
abbrev pub name_text : Option (List ℕ) → List ℕ
name_text None = codes "-"
name_text (Some name) = characters_text name

-- The line of a function: its two numbers and its name.
unfoldable pub function_line : ModuleFunction → List ℕ
function_line function =
    codes "XROM " ++ two_digits function.number ++ codes "," ++ two_digits function.entry
    ++ codes " " ++ name_text function.name ++ codes "\n"

-- The lines of functions.
abbrev pub functions_text : List ModuleFunction → List ℕ
functions_text functions = flat_map function_line functions

-- Bytes as two hexadecimal digits each.
abbrev pub bytes_text : List ℕ → List ℕ
bytes_text bytes = flat_map (hexadecimal_text 2) bytes

-- The line of some bytes.
abbrev pub bytes_line : List ℕ → List ℕ
bytes_line bytes = bytes_text bytes ++ codes "\n"

-- A line of an image, with 32 bytes.
abbrev pub image_line : List ℕ → ℕ → List ℕ
image_line bytes line = bytes_line (take 32 (drop (32 * line) bytes))

-- So many lines of 32 bytes each.
unfoldable pub image_lines : List ℕ → ℕ → List ℕ
image_lines bytes count = flat_map (image_line bytes) (range_with_len 0 count)

-- An image has 256 lines.
abbrev pub image_text : List ℕ → List ℕ
image_text bytes = image_lines bytes 256

-- The image in a bank of a page.
abbrev pub image_at_text : PageMap → ℕ → ℕ → List ℕ
image_at_text pages page bank =
    option_map_or (λ image. image_text (image_bytes image.words))
    (image_at pages page (bank_numbered bank)) []
