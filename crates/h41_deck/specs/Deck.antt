-- A deck: the replies to its commands in turn, and the text that it prints. `registers` is the
-- number of main registers of the bench that executes the deck.
use Rattle.std.specs.Prelude.{◌≡◌, ◌≢◌, ◌⊎◌, ℕ, ◌<◌, ◌≤◌, Bool, true, false, List, [], ◌∷◌}
use Rattle.std.specs.Prelude.{◌++◌, flat_map, length, take, is_some, if◌then◌else◌, Option}
use Rattle.std.specs.Prelude.{IfSome, Result, Ok, Err, IfErr, OnOk}
use Rattle.std.specs.List.{list_any}
use Rattle.std.specs.Io.KnownBytes.{Appends, Consumes}
use Rattle.h41_deck.specs.declared.replies.Outcome.{Outcome}
use Rattle.h41_deck.specs.declared.replies.Outcome.TheVariants.{Accepted, Refused}
use Rattle.h41_ends.specs.declared.source.Source as sources
use Rattle.h41_ends.specs.declared.sink.Sink as sinks
use Rattle.h41_refusals.specs.declared.fault.Fault.{Fault}
use Rattle.h41_refusals.specs.declared.fault.Fault.TheVariants.{OutOfMemory, ReadFault, WriteFault}
use Rattle.h41_commands.specs.Items.{Spelled, commands, opens_first, without_open_block}
use Rattle.h41_lines.specs.Lines.{ended_lines, lines}
use Rattle.h41_debug.specs.Bench.{BenchState, start}
use Rattle.h41_ends.specs.Ends.{GivesTooMany, most_bytes}
use Rattle.h41_ends.specs.InputLines.{bytes_within}
use Rattle.h41_ends.specs.ReadEvents.{AddsReads, EachRead, ReadEvent}
use Rattle.h41_deck.specs.Answers.{Answer, printed_text}
use Rattle.h41_deck.specs.Replies.{ItemReply, item_takes_memory}

-- These are the answers to these commands, which are executed in turn from a state on.
abbrev pub AnswersInTurn : List Spelled → BenchState → List Answer → Type 0
AnswersInTurn [] s [] = Unit {0}
AnswersInTurn [] s (answer ∷ answers) = ⊥
AnswersInTurn (item ∷ items) s [] = ⊥
AnswersInTurn (item ∷ items) s (answer ∷ answers) =
    (t : BenchState) × ItemReply item s t answer × AnswersInTurn items t answers

-- The commands whose last line end is in these bytes. A block that these bytes leave unfinished is
-- not among them.
abbrev pub commands_ended : List ℕ → List Spelled
commands_ended bytes = without_open_block (commands (lines (ended_lines bytes)))

-- These are the answers to the commands of a deck, which are executed in turn from the initial
-- state on. A deck of more than 67,108,864 bytes has none.
pub record AnswersDeck (registers : ℕ) (deck : List ℕ) (answers : List Answer) : Type 0 where
  pub bound : length deck ≤ most_bytes
  pub answered : AnswersInTurn (commands (lines deck)) (start registers) answers

-- The text that a deck prints: the answers to all its commands, in order.
abbrev pub Deck : ℕ → List ℕ → List ℕ → Type 0
Deck registers deck text =
    (answers : List Answer)
    × AnswersDeck registers deck answers
    × (text ≡ flat_map printed_text answers)

-- The text of the replies to the commands whose last line end is in these bytes.
abbrev pub EndedText : ℕ → List ℕ → List ℕ → Type 0
EndedText registers bytes text =
    (answers : List Answer)
    × AnswersInTurn (commands_ended bytes) (start registers) answers
    × (text ≡ flat_map printed_text answers)

-- `Refused` if one of the answers has a refusal, otherwise `Accepted`.
abbrev pub outcome_of : List Answer → Outcome
outcome_of answers =
    if list_any (λ answer. is_some answer.refusal) answers then Refused else Accepted

-- How a deck ends: whether one of its answers is a refusal.
abbrev pub DeckEnds : ℕ → List ℕ → Outcome → Type 0
DeckEnds registers deck outcome =
    (answers : List Answer) × AnswersDeck registers deck answers × (outcome ≡ outcome_of answers)

-- If the bytes of the deck are known, the outcome is whether one of its answers has a refusal.
abbrev pub EndsKnown : ℕ → Option (List ℕ) → Outcome → Type 0
EndsKnown registers known outcome = IfSome known (λ deck. DeckEnds registers deck outcome)

-- A text that `text_of` permits for this deck is appended to what was written.
abbrev pub WritesText : (List ℕ → List ℕ → Type 0) → Option (List ℕ) → Option (List ℕ) → List ℕ
    → Type 0
WritesText text_of old new deck = (text : List ℕ) × text_of deck text × Appends old new text

-- If a deck ends without an error, and is known, its text is written.
abbrev pub WritesDeck : {A W : Type 0} → ℕ → Result A Fault → Option (List ℕ)
    → (W → Option (List ℕ)) → W → W → Type 0
WritesDeck registers result known contents old new =
    OnOk result (IfSome known (WritesText (Deck registers) (contents old) (contents new)))

-- The text of the replies to the first few of these commands: none, some or all of them.
pub record FirstReplies (registers : ℕ) (items : List Spelled) (text : List ℕ) : Type 0 where
  pub first : List Spelled
  pub rest : List Spelled
  pub begins : items ≡ first ++ rest
  pub answers : List Answer
  pub answered : AnswersInTurn first (start registers) answers
  pub text_is : text ≡ flat_map printed_text answers

-- The text of the replies to the first few commands of a deck: none, some or all of them.
abbrev pub FirstText : ℕ → List ℕ → List ℕ → Type 0
FirstText registers deck = FirstReplies registers (commands (lines deck))

-- Whether the first of these commands allocates memory.
abbrev pub next_takes_memory : List Spelled → Bool
next_takes_memory [] = false
next_takes_memory (item ∷ items) = item_takes_memory item

-- `left` are the lines of a deck that remain after the lines of its first commands, `first`. The
-- lines before them spell exactly these commands, whatever lines follow.
pub record LinesLeft (deck : List ℕ) (first : List Spelled) (left : List (List ℕ)) : Type 0 where
  pub taken : List (List ℕ)
  pub whole : lines deck ≡ taken ++ left
  pub spelled : (more : List (List ℕ)) → commands (taken ++ more) ≡ first ++ commands more

-- When allocation can fail, after the first commands of a deck (`first`) were executed: if no byte
-- of the deck was read, or if the next command (of `rest`) allocates memory, or if the deck's next
-- line that is not skipped opens a block.
abbrev pub MayBeRefused : List ℕ → List Spelled → List Spelled → Type 0
MayBeRefused deck first rest =
    (deck ≡ [])
    ⊎ ((next_takes_memory rest ≡ true)
    ⊎ ((left : List (List ℕ)) × LinesLeft deck first left × (opens_first left ≡ true)))

-- The text of the replies to the first few commands of a deck, after which allocation can fail.
abbrev pub MemoryText : ℕ → List ℕ → List ℕ → Type 0
MemoryText registers deck text =
    (replies : FirstText registers deck text) × MayBeRefused deck replies.first replies.rest

-- What is appended to what was written, if reading these bytes of a deck ends with an error.
-- `OutOfMemory`: the replies to the first few commands, after which allocation can fail.
-- `ReadFault`: the replies to all commands whose last line end was read. `WriteFault`: a prefix of
-- the replies to the first few commands.
abbrev pub LeavesOf : ℕ → Fault → Option (List ℕ) → Option (List ℕ) → List ℕ → Type 0
LeavesOf registers OutOfMemory old new bytes = WritesText (MemoryText registers) old new bytes
LeavesOf registers ReadFault old new bytes =
    (text : List ℕ)
    × FirstText registers bytes text
    × EndedText registers bytes text
    × Appends old new text
LeavesOf registers WriteFault old new bytes =
    (text : List ℕ)
    × FirstText registers bytes text
    × (count : ℕ)
    × Appends old new (take count text)

-- The source's error flag is set, or it has delivered more bytes than a deck may have.
abbrev pub FailedOrGaveMore : {R : Type 0} → sources.Ghosts R → R → R → Type 0
FailedOrGaveMore source before after =
    (source.failed after ≡ true) ⊎ GivesTooMany (source.given before) (source.given after)

-- What holds after an error. `bytes`: those that were read of the deck. `leaves`: what is written
-- of the replies to those within the limit. `cause` and `why`: after `ReadFault`, a read failed or
-- there were too many bytes. `why` says this by the count of bytes that the source delivered, so
-- that it holds also if the bytes are not known.
pub record FaultLeaves {R W : Type 0} (registers : ℕ) (fault : Fault) (source : sources.Ghosts R)
    (sink : sinks.Ghosts W) (before after : R) (old new : W) : Type 0 where
  pub bytes : List ℕ
  pub read : Consumes (source.remaining before) (source.remaining after) bytes
  pub leaves :
      LeavesOf registers fault (sink.contents old) (sink.contents new) (bytes_within bytes)
  pub cause : fault ≡ ReadFault → (source.failed after ≡ true) ⊎ (most_bytes < length bytes)
  pub why : fault ≡ ReadFault → FailedOrGaveMore source before after

-- If the execution of a deck ends with an error, `FaultLeaves` holds.
abbrev pub LeavesDeck : {A R W : Type 0} → ℕ → Result A Fault → sources.Ghosts R → sinks.Ghosts W
    → R → R → W → W → Type 0
LeavesDeck registers result source sink before after old new =
    IfErr result (λ fault. FaultLeaves registers fault source sink before after old new)

-- The error is that writing failed.
abbrev pub is_of_write : Fault → Bool
is_of_write OutOfMemory = false
is_of_write ReadFault = false
is_of_write WriteFault = true

-- The execution of a deck ended because writing failed.
abbrev pub is_write_fault : {A : Type 0} → Result A Fault → Bool
is_write_fault (Ok done) = false
is_write_fault (Err fault) = is_of_write fault

-- After an error other than `WriteFault`, everything that is written is flushed.
abbrev pub PassedOn : {A : Type 0} → Result A Fault → Bool → Type 0
PassedOn result flushed = IfErr result (λ fault. fault ≢ WriteFault → flushed ≡ true)

-- The state at a read, after `bytes` were read: they are within the limit, the replies to all
-- commands whose last line end is in them are written and flushed, and nothing else is written.
-- `old` is what was written before the deck.
pub record ComesInTurn (registers : ℕ) (old : Option (List ℕ)) (bytes : List ℕ)
    (read : ReadEvent) : Type 0 where
  pub within : length bytes ≤ most_bytes
  pub answered : WritesText (EndedText registers) old read.written bytes
  pub flushed : read.flushed ≡ true

-- If the reads of a source are known, those that the execution of the deck adds are all in turn:
-- `ComesInTurn` holds at each of them.
abbrev pub ReadsInTurn : ℕ → Option (List ReadEvent) → Option (List ReadEvent) → Option (List ℕ)
    → Type 0
ReadsInTurn registers before after old =
    (reads : List ReadEvent)
    × AddsReads before after reads
    × EachRead (ComesInTurn registers old) [] reads

-- The laws of decks. A deck determines its text.
abbrev pub DeckDeterminesText : Type 0
DeckDeterminesText =
    (registers : ℕ) (deck text other : List ℕ) → Deck registers deck text
    → Deck registers deck other → text ≡ other

-- The bytes that were read determine the text of the commands whose last line end is in them.
abbrev pub EndedTextIsDetermined : Type 0
EndedTextIsDetermined =
    (registers : ℕ) (bytes text other : List ℕ) → EndedText registers bytes text
    → EndedText registers bytes other → text ≡ other

-- A deck determines whether a refusal is printed.
abbrev pub DeckDeterminesOutcome : Type 0
DeckDeterminesOutcome =
    (registers : ℕ) (deck : List ℕ) (outcome other : Outcome) → DeckEnds registers deck outcome
    → DeckEnds registers deck other → outcome ≡ other

-- The replies to the first commands of a deck are a prefix of its text.
abbrev pub FirstTextIsFront : Type 0
FirstTextIsFront =
    (registers : ℕ) (deck first text : List ℕ) → FirstText registers deck first
    → Deck registers deck text → (rest : List ℕ) × (text ≡ first ++ rest)
