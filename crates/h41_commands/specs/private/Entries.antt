-- What the items of the code contain, in the terms of a deck. This file only connects the code with
-- the other definitions.
use Rattle.std.specs.Prelude.{◌≡◌, ℕ, List, Option, Err}
use Rattle.h41_commands.specs.declared.item.Item.{Item}
use Rattle.h41_commands.specs.declared.item.Item.TheVariants.{Given, Refused}
use Rattle.h41_commands.specs.declared.commands.BlockKind.{BlockKind}
use Rattle.h41_commands.specs.private.TakenBlocks.{HasTaken, TakenBlock, judgement}
use Rattle.h41_commands.specs.Items.{Spelled, with_values}

-- What the lines of an item specify.
abbrev pub what_is_spelled : Item → Spelled
what_is_spelled (Given read) = with_values (judgement read.block) read.command
what_is_spelled (Refused refusal) = Err refusal

-- A block is of this kind, and has taken these lines.
pub record IsTaken (kind : Option BlockKind)
    (lines : List (List ℕ)) (block : TakenBlock) : Type 0 where
  pub kind_is : block.kind ≡ kind
  pub lines_are : HasTaken block lines
