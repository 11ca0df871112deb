-- A block that takes its lines one at a time, and what it keeps of them. This file only connects
-- the code with the other definitions.
use Rattle.std.specs.Prelude.{◌≡◌, ℕ, Bool, List, [], ◌∷◌, ◌++◌, take, Option, Some, None, Result}
use Rattle.std.specs.Prelude.{Ok, Err}
use Rattle.std.specs.List.{list_any}
use Rattle.h41_commands.specs.declared.commands.BlockKind.{BlockKind}
use Rattle.h41_commands.specs.declared.commands.BlockKind.TheVariants.{Page, Program}
use Rattle.h41_commands.specs.declared.commands.PageKind.TheVariants.{Words, Image, Asm}
use Rattle.h41_commands.specs.declared.refusal.LineRefusal.{LineRefusal}
use Rattle.h41_commands.specs.Blocks.{said_by, short_lines, unless_long, whole_said}
use Rattle.h41_commands.specs.DeckLines.{is_long}

-- What is known of a block from the lines that it has taken.
pub record TakenBlock : Type 0 where
  pub kind : Option BlockKind
  pub has_long : Bool
  pub content : Result (List ℕ) LineRefusal

-- Of the bytes of an image no more are kept than show that there are too many.
abbrev pub most_kept : ℕ
most_kept = 8193

-- The bytes that are kept of an image.
abbrev pub kept_bytes : Result (List ℕ) LineRefusal → Result (List ℕ) LineRefusal
kept_bytes (Ok bytes) = Ok (take most_kept bytes)
kept_bytes (Err refusal) = Err refusal

-- What a block keeps, by its kind.
abbrev pub kept_of : Option BlockKind → Result (List ℕ) LineRefusal → Result (List ℕ) LineRefusal
kept_of None said = said
kept_of (Some (Page Words)) said = said
kept_of (Some (Page Image)) said = kept_bytes said
kept_of (Some (Page Asm)) said = said
kept_of (Some (Program kind)) said = said

-- These are the lines that the block has taken.
pub record HasTaken (block : TakenBlock) (lines : List (List ℕ)) : Type 0 where
  pub long : block.has_long ≡ list_any is_long lines
  pub content : block.content ≡ kept_of block.kind (said_by block.kind (short_lines lines))

-- A block of this kind that has taken no lines.
pub record IsNew (kind : Option BlockKind) (block : TakenBlock) : Type 0 where
  pub kind_is : block.kind ≡ kind
  pub none : HasTaken block []

-- Whatever lines the block had taken, it has taken one more, and its kind is the same.
pub record Takes (old : TakenBlock) (line : List ℕ) (new : TakenBlock) : Type 0 where
  pub kind_is : new.kind ≡ old.kind
  pub more : (lines : List (List ℕ)) → HasTaken old lines → HasTaken new (lines ++ line ∷ [])

-- The values of the block, or why it is refused.
abbrev pub judgement : TakenBlock → Result (List ℕ) LineRefusal
judgement block = unless_long block.has_long (whole_said block.kind block.content)
