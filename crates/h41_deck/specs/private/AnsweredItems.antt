-- What the code that executes the items of a deck returns. This file only connects the code with
-- the other definitions.
use Rattle.std.specs.Prelude.{ℕ, List, Option, Result}
use Rattle.h41_commands.specs.Items.{line_spelled}
use Rattle.h41_commands.specs.declared.item.Item.{Item}
use Rattle.h41_commands.specs.private.Entries.{what_is_spelled}
use Rattle.h41_debug.specs.Bench.{BenchState}
use Rattle.h41_refusals.specs.declared.fault.CommandFault.{CommandFault}
use Rattle.h41_deck.specs.declared.replies.Outcome.{Outcome}
use Rattle.h41_deck.specs.declared.replies.Outcome.TheVariants.{Accepted, Refused}
use Rattle.h41_deck.specs.private.Writing.{Leaves}

-- The outcome of a deck with this outcome so far and this one of its next command.
abbrev pub outcome_and : Outcome → Outcome → Outcome
outcome_and Refused next = Refused
outcome_and Accepted next = next

-- What a line that opens no block leaves, by its result: its reply, a prefix of it, or nothing.
abbrev pub AnswersLine : {W : Type 0} → Result Outcome CommandFault → List ℕ → BenchState
    → BenchState → (W → Option (List ℕ)) → W → W → Type 0
AnswersLine result line s t contents old new =
    Leaves result (line_spelled line) s t contents old new

-- What an item leaves, by its result.
abbrev pub AnswersItem : {W : Type 0} → Result Outcome CommandFault → Item → BenchState → BenchState
    → (W → Option (List ℕ)) → W → W → Type 0
AnswersItem result item s t contents old new =
    Leaves result (what_is_spelled item) s t contents old new
