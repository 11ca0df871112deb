-- What is written of an answer, and what the results of the code say about it. This file connects
-- the code with the other definitions. The contract of `apply` uses `Acts` from it, which says what
-- is written: `Replies`, or a prefix, `RepliesInPart`.
use Rattle.std.specs.Global.{Global}
use Rattle.std.specs.Prelude.{◌≡◌, ℕ, Bool, true, false, Vec, List, [], Option, Some, None, Result}
use Rattle.std.specs.Prelude.{Ok, Err}
use Rattle.std.specs.Io.KnownBytes.{Appends, Keeps}
use Rattle.std.specs.Result.{result_err}
use Rattle.h41_commands.specs.declared.commands.Command.{Command}
use Rattle.h41_commands.specs.declared.commands.Command.TheVariants as commands
use Rattle.h41_commands.specs.private.TakenBlocks.{TakenBlock, judgement}
use Rattle.h41_commands.specs.Items.{Spelled, with_values}
use Rattle.h41_debug.specs.Bench.{BenchState}
use Rattle.h41_debug.specs.Traces.{TellsStep, traced_line}
use Rattle.h41_ends.specs.Ends.{AppendsPart}
use Rattle.h41_ends.specs.declared.fault.WriteFault as fault
use Rattle.h41_pages.specs.PageMap.{PageMap}
use Rattle.h41_commands.specs.declared.commands.View.{View}
use Rattle.h41_refusals.specs.declared.fault.CommandFault.{CommandFault}
use Rattle.h41_refusals.specs.declared.fault.CommandFault.TheVariants.{OutOfMemory, WriteFault}
use Rattle.h41_deck.specs.declared.replies.Outcome.{Outcome}
use Rattle.h41_deck.specs.declared.replies.Outcome.TheVariants.{Accepted, Refused}
use Rattle.h41_refusals.specs.declared.refusal.Refusal.{Refusal}
use Rattle.h41_deck.specs.Answers.{Answer, printed_text}
use Rattle.h41_deck.specs.Listings.{listing_at}
use Rattle.h41_deck.specs.Replies.{ItemReply}
use Rattle.h41_deck.specs.Views.{Shows, image_view}

-- Whether an answer is a refusal.
abbrev pub outcome_in : Option Refusal → Outcome
outcome_in None = Accepted
outcome_in (Some refusal) = Refused

-- The outcome says whether there is a refusal.
abbrev pub EndsAs : Option Refusal → Outcome → Type 0
EndsAs refusal outcome = outcome ≡ outcome_in refusal

-- The lines of a command are answered: their reply is written, and the outcome says whether it is a
-- refusal.
pub record Replies (item : Spelled) (s t : BenchState)
    (old new : Option (List ℕ)) (outcome : Outcome) : Type 0 where
  pub answer : Answer
  pub reply : ItemReply item s t answer
  pub written : Appends old new (printed_text answer)
  pub outcome_is : outcome ≡ outcome_in answer.refusal

-- What is printed for a command that leaves the bench in this state. What a command does to the
-- bench does not depend on its writer.
abbrev pub PrintsUntil : Spelled → BenchState → BenchState → List ℕ → Type 0
PrintsUntil item s t text =
    (answer : Answer) × ItemReply item s t answer × (text ≡ printed_text answer)

-- A prefix of that text is written, and not all of it.
pub record RepliesInPart (item : Spelled) (s t : BenchState)
    (old new : Option (List ℕ)) : Type 0 where
  pub text : List ℕ
  pub printed_until : PrintsUntil item s t text
  pub written : AppendsPart old new text

-- What a command with its block leaves, by its result: the reply, a prefix of it, or nothing if
-- allocation failed.
abbrev pub Leaves : {W : Type 0} → Result Outcome CommandFault → Spelled → BenchState → BenchState
    → (W → Option (List ℕ)) → W → W → Type 0
Leaves (Ok outcome) item s t contents old new =
    Replies item s t (contents old) (contents new) outcome
Leaves (Err WriteFault) item s t contents old new =
    RepliesInPart item s t (contents old) (contents new)
Leaves (Err OutOfMemory) item s t contents old new = Keeps (contents old) (contents new)

-- The error is that writing failed.
abbrev pub is_of_write : CommandFault → Bool
is_of_write OutOfMemory = false
is_of_write WriteFault = true

-- A command was not answered completely because writing failed.
abbrev pub is_write_fault : {A : Type 0} → Result A CommandFault → Bool
is_write_fault (Ok done) = false
is_write_fault (Err fault) = is_of_write fault

-- If allocation failed, the bench is in the state that it had before the call.
abbrev pub KeepsIfOutOfMemory : {A : Type 0} → Result A CommandFault → BenchState → BenchState
    → Type 0
KeepsIfOutOfMemory result s t = result ≡ Err OutOfMemory → t ≡ s

-- A block that is not refused.
abbrev pub IsAccepted : TakenBlock → Type 0
IsAccepted block = result_err (judgement block) ≡ None

-- The command with the values of its block.
abbrev pub item_of : Command → TakenBlock → Spelled
item_of command block = with_values (judgement block) command

-- What `apply` leaves, by its result.
abbrev pub Acts : {W : Type 0} → Result Outcome CommandFault → Command → TakenBlock → BenchState
    → BenchState → (W → Option (List ℕ)) → W → W → Type 0
Acts result command block s t contents old new =
    Leaves result (item_of command block) s t contents old new

-- The text of an answer is written, and its refusal is still to be written.
pub record SaysText (item : Spelled) (s t : BenchState)
    (old new : Option (List ℕ)) (refusal : Option Refusal) : Type 0 where
  pub text : List ℕ
  pub reply : ItemReply item s t (record { text = text; refusal = refusal })
  pub written : Appends old new text

-- What a command leaves before its refusal is written, by its result.
abbrev pub LeavesText : {W : Type 0} → Result (Option Refusal) CommandFault → Spelled → BenchState
    → BenchState → (W → Option (List ℕ)) → W → W → Type 0
LeavesText (Ok refusal) item s t contents old new =
    SaysText item s t (contents old) (contents new) refusal
LeavesText (Err WriteFault) item s t contents old new =
    RepliesInPart item s t (contents old) (contents new)
LeavesText (Err OutOfMemory) item s t contents old new = Keeps (contents old) (contents new)

-- The same of a command with its block.
abbrev pub Says : {W : Type 0} → Result (Option Refusal) CommandFault → Command → TakenBlock
    → BenchState → BenchState → (W → Option (List ℕ)) → W → W → Type 0
Says result command block s t contents old new =
    LeavesText result (item_of command block) s t contents old new

-- The same of a command without a block, whatever values a block would have.
abbrev pub SaysAlone : {W : Type 0} → Result (Option Refusal) CommandFault → Command → BenchState
    → BenchState → (W → Option (List ℕ)) → W → W → Type 0
SaysAlone result command s t contents old new =
    (values : List ℕ) → LeavesText result (Ok (command, values)) s t contents old new

-- The same of a command that writes without allocating memory.
abbrev pub WritesAlone : {W : Type 0} → Result (Option Refusal) fault.WriteFault → Command
    → BenchState → BenchState → (W → Option (List ℕ)) → W → W → Type 0
WritesAlone (Ok refusal) command s t contents old new =
    (values : List ℕ) → SaysText (Ok (command, values)) s t (contents old) (contents new) refusal
WritesAlone (Err failed) command s t contents old new =
    (values : List ℕ) → RepliesInPart (Ok (command, values)) s t (contents old) (contents new)

-- A run writes without allocating memory.
abbrev pub RunsAlone : {W : Type 0} → Result (Option Refusal) fault.WriteFault → ℕ → BenchState
    → BenchState → (W → Option (List ℕ)) → W → W → Type 0
RunsAlone result limit s t contents old new =
    WritesAlone result (commands.Run limit) s t contents old new

-- So does a trace.
abbrev pub TracesAlone : {W : Type 0} → Result (Option Refusal) fault.WriteFault → ℕ → BenchState
    → BenchState → (W → Option (List ℕ)) → W → W → Type 0
TracesAlone result count s t contents old new =
    WritesAlone result (commands.Trace count) s t contents old new

-- The line of a trace that describes the next step.
abbrev pub IsTraceLine : BenchState → List ℕ → Type 0
IsTraceLine s line = (text : List ℕ) × TellsStep s text × (line ≡ traced_line text)

-- What was made: a text or its refusal.
abbrev pub text_in : Result (Vec ℕ Global) Refusal → Result (List ℕ) Refusal
text_in (Ok text) = Ok text.items
text_in (Err refusal) = Err refusal

-- The text that was made; empty if there is a refusal.
abbrev pub made_text : Result (Vec ℕ Global) Refusal → List ℕ
made_text (Ok text) = text.items
made_text (Err refusal) = []

-- The refusal of what was made, if there is one.
abbrev pub IsRefusalOf : {A : Type 0} → Result A Refusal → Option Refusal → Type 0
IsRefusalOf made refusal = refusal ≡ result_err made

-- What was made is the text of a view, or its refusal.
abbrev pub IsShown : View → BenchState → Result (Vec ℕ Global) Refusal → Type 0
IsShown view s made = Shows view s (text_in made)

-- What was made is an image, or its refusal.
abbrev pub IsImageShown : PageMap → ℕ → ℕ → Result (Vec ℕ Global) Refusal → Type 0
IsImageShown pages page bank made = text_in made ≡ image_view pages page bank

-- What was made is a listing, or its refusal.
abbrev pub IsListed : PageMap → ℕ → ℕ → Result (Vec ℕ Global) Refusal → Type 0
IsListed pages address count made = text_in made ≡ listing_at pages address count
