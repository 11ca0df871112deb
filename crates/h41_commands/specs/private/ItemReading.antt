-- What the code that reads the items of a deck line by line returns. This file only connects the
-- code with the other definitions.
use Rattle.std.specs.Prelude.{◌≡◌, ◌<◌, ℕ, Bool, true, false, List, [], ◌∷◌, ◌++◌}
use Rattle.std.specs.Prelude.{if◌then◌else◌, Option, Some, None, OnSome, Result, Ok, Err}
use Rattle.std.specs.List.{list_any, before_first}
use Rattle.h41_commands.specs.declared.line.FirstLine.{FirstLine}
use Rattle.h41_commands.specs.declared.line.LineKind.{LineKind}
use Rattle.h41_commands.specs.declared.commands.Command.{Command}
use Rattle.h41_commands.specs.declared.fault.ItemFault.{ItemFault}
use Rattle.h41_commands.specs.declared.fault.ItemFault.TheVariants as fault
use Rattle.h41_commands.specs.declared.refusal.LineRefusal.{LineRefusal}
use Rattle.h41_commands.specs.declared.refusal.LineRefusal.TheVariants.{NoEnd}
use Rattle.h41_commands.specs.Blocks.{block_values}
use Rattle.h41_commands.specs.Commands.{and_then, kind_of}
use Rattle.h41_commands.specs.DeckLines.{is_end}
use Rattle.h41_commands.specs.FirstLines.{first_line, line_kind}
use Rattle.h41_commands.specs.Items.{Spelled, commands, is_open, opens_first, with_values}
use Rattle.h41_commands.specs.Items.{without_open_block}
use Rattle.h41_ends.specs.HeardLines.{Hears}
use Rattle.h41_ends.specs.ReadEvents.{ReadEvent}
use Rattle.h41_ends.specs.InputLines.{MayFollow, ReadsMore, line_in, most_left}
use Rattle.h41_ends.specs.declared.input_lines.InputLines.{InputLines}

-- Whether a refusal is that of an open block.
abbrev pub is_unended : {A : Type 0} → Result A LineRefusal → Bool
is_unended (Ok value) = false
is_unended (Err refusal) = is_open (Err refusal)

-- Lines that specify nothing, whatever lines follow.
abbrev pub SpellNothing : List (List ℕ) → Type 0
SpellNothing lines = (more : List (List ℕ)) → commands (lines ++ more) ≡ commands more

-- The line that was returned after the skipped ones, if there was one.
abbrev pub first_lines : {E : Type 0} → Result (Option LineKind) E → InputLines → List (List ℕ)
first_lines (Ok None) input = []
first_lines (Ok (Some kind)) input = line_in input ∷ []
first_lines (Err fault) input = []

-- What that line is.
abbrev pub TellsKind : {E : Type 0} → Result (Option LineKind) E → List ℕ → Type 0
TellsKind (Ok None) line = Unit {0}
TellsKind (Ok (Some kind)) line = line_kind line ≡ Some kind
TellsKind (Err fault) line = Unit {0}

-- Lines were read up to the first line of an item.
pub record ReadsFirst {E : Type 0} (result : Result (Option LineKind) E)
    (before after : Option (List ℕ)) (old new : InputLines) : Type 0 where
  pub skipped : List (List ℕ)
  pub nothing : SpellNothing skipped
  pub reads : ReadsMore before after old new (skipped ++ first_lines result new)
  pub kind : TellsKind result (line_in new)

-- The same with the reads: before each, only lines that spell nothing are complete.
pub record HearsFirst {E : Type 0} (result : Result (Option LineKind) E)
    (before after : Option (List ReadEvent)) (written : Option (List ℕ)) (old new : InputLines)
    : Type 0 where
  pub skipped : List (List ℕ)
  pub nothing : SpellNothing skipped
  pub hears : Hears SpellNothing before after written old new (skipped ++ first_lines result new)
  pub kind : TellsKind result (line_in new)

-- Lines specify these items, whatever lines follow.
abbrev pub Spell : Bool → List (List ℕ) → List Spelled → Type 0
Spell at_end lines items =
    (more : List (List ℕ)) → MayFollow at_end more
    → commands (lines ++ more) ≡ items ++ commands more

-- The lines that were read specify the item that is returned. If reading failed, they specify
-- nothing but an open block. If allocation failed, they begin a block.
abbrev pub SpellNext : Result (Option Spelled) ItemFault → Bool → List (List ℕ) → Type 0
SpellNext (Ok None) at_end lines = Spell at_end lines []
SpellNext (Ok (Some item)) at_end lines = Spell at_end lines (item ∷ [])
SpellNext (Err fault.ReadFault) at_end lines = without_open_block (commands lines) ≡ []
SpellNext (Err fault.OutOfMemory) at_end lines = opens_first lines ≡ true
SpellNext (Err fault.WriteFault) at_end lines = Unit {0}

-- Lines were read, and are those of the item that is returned.
pub record ReadsNext (result : Result (Option Spelled) ItemFault)
    (before after : Option (List ℕ)) (old new : InputLines) : Type 0 where
  pub lines : List (List ℕ)
  pub reads : ReadsMore before after old new lines
  pub spelled : SpellNext result new.at_end lines

-- Lines that spell nothing except an open block.
abbrev pub SpellNoneEnded : List (List ℕ) → Type 0
SpellNoneEnded lines = without_open_block (commands lines) ≡ []

-- The same with the reads: before each, no item is complete.
pub record HearsNext (result : Result (Option Spelled) ItemFault)
    (before after : Option (List ReadEvent)) (written : Option (List ℕ)) (old new : InputLines)
    : Type 0 where
  pub lines : List (List ℕ)
  pub hears : Hears SpellNoneEnded before after written old new lines
  pub spelled : SpellNext result new.at_end lines

-- The kind of the line that was returned.
abbrev pub kind_returned : {E : Type 0} → Result (Option FirstLine) E → Result (Option LineKind) E
kind_returned (Ok None) = Ok None
kind_returned (Ok (Some first)) = Ok (Some first.kind)
kind_returned (Err fault) = Err fault

-- The result describes this line.
abbrev pub TellsFirst : List ℕ → Option FirstLine → Type 0
TellsFirst line None = Unit {0}
TellsFirst line (Some first) = first_line line ≡ Some first

-- When a line is returned, fewer bytes remain.
abbrev pub LeavesFewer : {A : Type 0} → InputLines → InputLines → Option A → Type 0
LeavesFewer old new next = OnSome next (most_left new < most_left old)

-- A block, by what its first line specifies, and the lines after that.
abbrev pub opened_by : Result Command LineRefusal → List (List ℕ) → Spelled
opened_by command rest =
    if list_any is_end rest
    then and_then command
    (λ given. with_values (block_values (kind_of given) (before_first is_end rest)) given)
    else Err NoEnd
