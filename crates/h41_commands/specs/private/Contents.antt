-- What the blocks of the code contain, in the terms of a deck. This file only connects the code
-- with the other definitions.
use Rattle.std.specs.Prelude.{◌≡◌, ℕ, List, [], ◌∷◌, ◌++◌, Option, Some, None, Result, Ok, Err, Vec}
use Rattle.std.specs.Prelude.{is_ok, false, if◌then◌else◌, take}
use Rattle.std.specs.Global.{Global}
use Rattle.h41_commands.specs.declared.refusal.LineRefusal.TheVariants.{BadNumber}
use Rattle.h41_commands.specs.declared.blocks.Content.{Content}
use Rattle.h41_commands.specs.declared.blocks.Content.TheVariants as contents
use Rattle.h41_commands.specs.declared.blocks.page_words.PageWords.{PageWords}
use Rattle.h41_commands.specs.declared.commands.BlockKind.{BlockKind}
use Rattle.h41_commands.specs.declared.commands.BlockKind.TheVariants.{Page, Program}
use Rattle.h41_commands.specs.declared.commands.PageKind.TheVariants.{Words, Image, Asm}
use Rattle.h41_commands.specs.declared.commands.ProgramKind.TheVariants.{Bytes, Text}
use Rattle.h41_commands.specs.declared.refusal.LineRefusal.{LineRefusal}
use Rattle.h41_commands.specs.declared.blocks.hex_bytes.HexBytes.{HexBytes}
use Rattle.h41_commands.specs.declared.blocks.image_bytes.ImageBytes.{ImageBytes}
use Rattle.h41_commands.specs.declared.blocks.source_text.SourceText.{SourceText}
use Rattle.h41_commands.specs.declared.commands.PageKind.{PageKind}
use Rattle.h41_commands.specs.declared.commands.ProgramKind.{ProgramKind}
use Rattle.h41_commands.specs.Blocks.{block_bytes, block_source, block_words}
use Rattle.h41_commands.specs.private.TakenBlocks.{TakenBlock, judgement, kept_bytes, most_kept}
use Rattle.h41_commands.specs.Blocks.{line_bytes, word_values}
use Rattle.h41_commands.specs.PageBlocks.{Fills}
use Rattle.h41_commands.specs.ProgramBlocks.{Means}

-- The values, unless there is an error.
abbrev pub unless_fault : Option LineRefusal → List ℕ → Result (List ℕ) LineRefusal
unless_fault None values = Ok values
unless_fault (Some fault) values = Err fault

-- The values of a page's words, or their error.
abbrev pub words_in : PageWords → Result (List ℕ) LineRefusal
words_in page = unless_fault page.fault page.words.items

-- Whatever lines the words were from, they are now from one line more.
abbrev pub TakesLine : PageWords → List ℕ → PageWords → Type 0
TakesLine old line new =
    (lines : List (List ℕ)) → words_in old ≡ word_values (block_words lines)
    → words_in new ≡ word_values (block_words (lines ++ line ∷ []))

-- Whatever words they were, there is now one word more.
abbrev pub TakesWord : PageWords → List ℕ → PageWords → Type 0
TakesWord old word new =
    (words : List (List ℕ)) → words_in old ≡ word_values words
    → words_in new ≡ word_values (words ++ word ∷ [])

-- The bytes of lines, or their error.
abbrev pub bytes_in : HexBytes → Result (List ℕ) LineRefusal
bytes_in said = if said.is_wrong then Err BadNumber else Ok said.bytes.items

-- Whatever lines the bytes were from, they are now from one line more.
abbrev pub TakesBytes : HexBytes → List ℕ → HexBytes → Type 0
TakesBytes old line new =
    (lines : List (List ℕ)) → bytes_in old ≡ block_bytes lines
    → bytes_in new ≡ block_bytes (lines ++ line ∷ [])

-- The bytes of an image that are kept, or their error.
abbrev pub image_in : ImageBytes → Result (List ℕ) LineRefusal
image_in said = if said.is_wrong then Err BadNumber else Ok said.bytes.items

-- Whatever lines they were kept of, they are now kept of one line more.
abbrev pub TakesImage : ImageBytes → List ℕ → ImageBytes → Type 0
TakesImage old line new =
    (lines : List (List ℕ)) → image_in old ≡ kept_bytes (block_bytes lines)
    → image_in new ≡ kept_bytes (block_bytes (lines ++ line ∷ []))

-- More bytes follow those that are kept, as far as there is room.
pub record KeepsMore (old : ImageBytes) (more : List ℕ) (new : ImageBytes) : Type 0 where
  pub bytes : new.bytes.items ≡ take most_kept (old.bytes.items ++ more)
  pub same : new.is_wrong ≡ old.is_wrong

-- What was decoded of a line.
abbrev pub AreBytesOf : List ℕ → Option (Vec ℕ Global) → Type 0
AreBytesOf line None = is_ok (line_bytes line) ≡ false
AreBytesOf line (Some bytes) = line_bytes line ≡ Ok bytes.items

-- The text of a source or a program.
abbrev pub source_in : SourceText → List ℕ
source_in said = said.text.items

-- Whatever lines the source was from, it is now from one line more.
abbrev pub TakesSource : SourceText → List ℕ → SourceText → Type 0
TakesSource old line new =
    (lines : List (List ℕ)) → source_in old ≡ block_source lines
    → source_in new ≡ block_source (lines ++ line ∷ [])

-- What the content of a block contains.
abbrev pub content_in : Content → Result (List ℕ) LineRefusal
content_in contents.Nothing = Ok []
content_in (contents.Words words) = words_in words
content_in (contents.Image bytes) = image_in bytes
content_in (contents.Source source) = Ok (source_in source)
content_in (contents.Bytes bytes) = bytes_in bytes
content_in (contents.Text text) = Ok (source_in text)

-- The kind of the block with this content.
abbrev pub kind_in : Content → Option BlockKind
kind_in contents.Nothing = None
kind_in (contents.Words words) = Some (Page Words)
kind_in (contents.Image bytes) = Some (Page Image)
kind_in (contents.Source source) = Some (Page Asm)
kind_in (contents.Bytes bytes) = Some (Program Bytes)
kind_in (contents.Text text) = Some (Program Text)

-- What was made of a block's values, as lists.
abbrev pub values_in : Result (Vec ℕ Global) LineRefusal → Result (List ℕ) LineRefusal
values_in (Ok words) = Ok words.items
values_in (Err refusal) = Err refusal

-- What was made of a source.
abbrev pub FillsFrom : ℕ → List ℕ → Result (Vec ℕ Global) LineRefusal → Type 0
FillsFrom page source made = Fills Asm page source (values_in made)

-- A block for a page.
abbrev pub IsForPage : TakenBlock → Type 0
IsForPage block = (kind : PageKind) × (block.kind ≡ Some (Page kind))

-- What was made of a block for a page: the words that its values fill the page with.
pub record FillsBy (block : TakenBlock) (page : ℕ)
    (made : Result (Vec ℕ Global) LineRefusal) : Type 0 where
  pub kind : PageKind
  pub kind_is : block.kind ≡ Some (Page kind)
  pub values : List ℕ
  pub said : judgement block ≡ Ok values
  pub fills : Fills kind page values (values_in made)

-- A block that is a program.
abbrev pub IsForProgram : TakenBlock → Type 0
IsForProgram block = (kind : ProgramKind) × (block.kind ≡ Some (Program kind))

-- What was made of a block that is a program: the bytes that its values mean.
pub record MeansBy (block : TakenBlock) (made : Result (Vec ℕ Global) LineRefusal) : Type 0 where
  pub kind : ProgramKind
  pub kind_is : block.kind ≡ Some (Program kind)
  pub values : List ℕ
  pub said : judgement block ≡ Ok values
  pub means : Means kind values (values_in made)
