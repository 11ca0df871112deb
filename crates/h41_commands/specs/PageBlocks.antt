-- The words that a block's values fill a page with. The language is this project's own.
use Rattle.std.specs.Prelude.{◌≡◌, ℕ, ◌*◌, ◌%◌, List, length, nat_lt, if◌then◌else◌, Option, Some}
use Rattle.std.specs.Prelude.{Result, Ok, Err, option_map}
use Rattle.h41_asm.specs.Assembly.{Assembles}
use Rattle.h41_asm.specs.Faults.{assembly_fault}
use Rattle.h41_pages.specs.Addresses.{page_count, page_size}
use Rattle.h41_commands.specs.declared.commands.PageKind.{PageKind}
use Rattle.h41_commands.specs.declared.commands.PageKind.TheVariants.{Words, Image, Asm}
use Rattle.h41_commands.specs.declared.refusal.LineRefusal.{LineRefusal}
use Rattle.h41_commands.specs.declared.refusal.LineRefusal.TheVariants.{BadImage, Source}
use Rattle.h41_commands.specs.Commands.{and_then}

-- The first address of a page, which one digit names.
abbrev pub page_address : ℕ → ℕ
page_address page = page % page_count * page_size

-- Why a source has no words: its first error, with its line.
abbrev pub source_refusal : List ℕ → ℕ → Option LineRefusal
source_refusal source origin =
    option_map (λ found. Source found.0 found.1) (assembly_fault source origin)

-- What a source makes at an origin: the words that it assembles to, or its refusal.
abbrev pub SourceMakes : List ℕ → ℕ → Result (List ℕ) LineRefusal → Type 0
SourceMakes source origin (Ok words) = Assembles source origin words
SourceMakes source origin (Err refusal) = source_refusal source origin ≡ Some refusal

-- The words of one page: BadImage (04) if there are more than it has.
abbrev pub words_of_page : List ℕ → Result (List ℕ) LineRefusal
words_of_page words = if nat_lt page_size (length words) then Err BadImage else Ok words

-- The words that a block's values define for a page, or why they define none. The values are the
-- words already, or the source of the words.
abbrev pub Fills : PageKind → ℕ → List ℕ → Result (List ℕ) LineRefusal → Type 0
Fills Words page values words = words ≡ Ok values
Fills Image page values words = words ≡ Ok values
Fills Asm page source words =
    (given : Result (List ℕ) LineRefusal)
    × SourceMakes source (page_address page) given
    × (words ≡ and_then given words_of_page)
