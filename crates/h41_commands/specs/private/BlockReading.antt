-- What the code that reads the lines of a block returns. This file only connects the code with the
-- other definitions.
use Rattle.std.specs.Prelude.{◌≡◌, ℕ, Bool, true, false, List, [], ◌∷◌, ◌++◌, Option, Some, None}
use Rattle.std.specs.Prelude.{Result, Ok, Err}
use Rattle.std.specs.List.{list_any, after_first}
use Rattle.h41_commands.specs.declared.commands.BlockKind.{BlockKind}
use Rattle.h41_commands.specs.declared.commands.Command.{Command}
use Rattle.h41_commands.specs.declared.item.Item.{Item}
use Rattle.h41_commands.specs.declared.refusal.LineRefusal.{LineRefusal}
use Rattle.h41_commands.specs.private.TakenBlocks.{TakenBlock}
use Rattle.h41_commands.specs.DeckLines.{is_end}
use Rattle.h41_commands.specs.private.Entries.{IsTaken, what_is_spelled}
use Rattle.h41_commands.specs.private.ItemReading.{opened_by}
use Rattle.h41_ends.specs.HeardLines.{Hears}
use Rattle.h41_ends.specs.ReadEvents.{ReadEvent}
use Rattle.h41_ends.specs.InputLines.{MayFollow, ReadsMore}
use Rattle.h41_ends.specs.declared.input_lines.InputLines.{InputLines}

-- These lines are those of a block and the line that ends it, and the block has taken the former.
pub record AreTaken (kind : Option BlockKind)
    (lines : List (List ℕ)) (block : TakenBlock) : Type 0 where
  pub inside : List (List ℕ)
  pub last : List ℕ
  pub parts : lines ≡ inside ++ last ∷ []
  pub endless : list_any is_end inside ≡ false
  pub ended : is_end last ≡ true
  pub taken : IsTaken kind inside block

-- The lines are those of a block, or none of them ends a block.
abbrev pub TakeBlock : {E : Type 0} → Option BlockKind → Result (Option TakenBlock) E
    → List (List ℕ) → Type 0
TakeBlock kind (Ok (Some block)) lines = AreTaken kind lines block
TakeBlock kind (Ok None) lines = list_any is_end lines ≡ false
TakeBlock kind (Err fault) lines = list_any is_end lines ≡ false

-- Lines were read, and they are those of a block or have no end.
pub record ReadsTaken {E : Type 0} (result : Result (Option TakenBlock) E)
    (kind : Option BlockKind) (before after : Option (List ℕ)) (old new : InputLines)
    : Type 0 where
  pub lines : List (List ℕ)
  pub reads : ReadsMore before after old new lines
  pub taken : TakeBlock kind result lines

-- No line of these is `end`.
abbrev pub HaveNoEnd : List (List ℕ) → Type 0
HaveNoEnd lines = list_any is_end lines ≡ false

pub record HearsTaken {E : Type 0} (result : Result (Option TakenBlock) E)
    (kind : Option BlockKind) (before after : Option (List ReadEvent)) (written : Option (List ℕ))
    (old new : InputLines) : Type 0 where
  pub lines : List (List ℕ)
  pub hears : Hears HaveNoEnd before after written old new lines
  pub taken : TakeBlock kind result lines

-- The lines are the block of a command, whatever lines follow.
abbrev pub SpellBlock : {E : Type 0} → Result Command LineRefusal → Result Item E → Bool
    → List (List ℕ) → Type 0
SpellBlock command (Ok item) at_end lines =
    (more : List (List ℕ)) → MayFollow at_end more
    → (opened_by command (lines ++ more) ≡ what_is_spelled item)
    × (after_first is_end (lines ++ more) ≡ more)
SpellBlock command (Err fault) at_end lines = list_any is_end lines ≡ false

-- Lines were read, and they are the block of this command.
pub record ReadsBlock {E : Type 0} (result : Result Item E)
    (command : Result Command LineRefusal) (before after : Option (List ℕ))
    (old new : InputLines) : Type 0 where
  pub lines : List (List ℕ)
  pub reads : ReadsMore before after old new lines
  pub spelled : SpellBlock command result new.at_end lines

-- A block was read up to its `end`, in a record of its reads.
pub record HearsBlock {E : Type 0} (result : Result Item E)
    (command : Result Command LineRefusal) (before after : Option (List ReadEvent))
    (written : Option (List ℕ)) (old new : InputLines) : Type 0 where
  pub lines : List (List ℕ)
  pub hears : Hears HaveNoEnd before after written old new lines
  pub spelled : SpellBlock command result new.at_end lines
