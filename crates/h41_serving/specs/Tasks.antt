-- What a job makes of its input: the text that it prints, how it ends, and what is reported if
-- something fails.
use Rattle.std.specs.Prelude.{◌≡◌, ◌≢◌, ◌⊎◌, ℕ, ◌<◌, Bool, true, false, List, [], length, take}
use Rattle.std.specs.Prelude.{Option, IfSome}
use Rattle.std.specs.Io.KnownBytes.{Appends, Consumes, Keeps}
use Rattle.h41_ends.specs.declared.sink.Sink as sinks
use Rattle.h41_ends.specs.declared.source.Source as sources
use Rattle.h41_deck.specs.declared.replies.Outcome.{Outcome}
use Rattle.h41_deck.specs.declared.replies.Outcome.TheVariants as outcomes
use Rattle.h41_deck.specs.Deck as decks
use Rattle.h41_ends.specs.Ends.{Appended, GivesTooMany, most_bytes}
use Rattle.h41_ends.specs.InputLines.{bytes_within}
use Rattle.h41_ends.specs.ReadEvents.{ReadEvent}
use Rattle.h41_jobs.specs.declared.arguments.Job.{Job}
use Rattle.h41_jobs.specs.declared.arguments.Task.{Task}
use Rattle.h41_jobs.specs.declared.arguments.Task.TheVariants as tasks
use Rattle.h41_jobs.specs.MemorySizes.{registers_of}
use Rattle.h41_jobs.specs.declared.ended.Ended.{Ended}
use Rattle.h41_jobs.specs.declared.ended.Ended.TheVariants.{Accepted, Refused, WrongWord}
use Rattle.h41_jobs.specs.Outputs.{AppendsFront}
use Rattle.h41_jobs.specs.Texts.{AssemblyEnds, AssemblyText, HasNoWrongWord, IsNotRefused}
use Rattle.h41_jobs.specs.Texts.{ListingEnds, ListingText, mistake_line}

-- The text that a task prints for an input. The listing of words is the same for each origin.
abbrev pub HasText : Task → List ℕ → List ℕ → Type 0
HasText (tasks.Run size) = decks.Deck (registers_of size)
HasText (tasks.Assemble origin) = AssemblyText origin
HasText (tasks.List origin) = ListingText

-- What is written is a text of the input.
abbrev pub WritesTextOf : (List ℕ → List ℕ → Type 0) → Option (List ℕ) → Option (List ℕ) → List ℕ
    → Type 0
WritesTextOf text_of old new input = (text : List ℕ) × text_of input text × Appends old new text

-- A prefix of such a text is written, which may be all of it.
abbrev pub WritesFrontOf : (List ℕ → List ℕ → Type 0) → Option (List ℕ) → Option (List ℕ) → List ℕ
    → Type 0
WritesFrontOf text_of old new input =
    (text : List ℕ) × text_of input text × (count : ℕ) × Appends old new (take count text)

-- If the input is known, its text is written.
abbrev pub WritesTaskText : {W : Type 0} → Task → Option (List ℕ) → (W → Option (List ℕ)) → W → W
    → Type 0
WritesTaskText task known contents old new =
    IfSome known (WritesTextOf (HasText task) (contents old) (contents new))

-- If the input is known and the status of the job is not 3, the text of the job's task is written.
abbrev pub JobWritesText : {R W : Type 0} → ℕ → Job → sources.Ghosts R → sinks.Ghosts W → R → W → W
    → Type 0
JobWritesText status job source sink before old new =
    status ≢ 3 → WritesTaskText job.task (source.remaining before) sink.contents old new

-- How a job ends, by the outcome of its deck.
abbrev pub ended_of_deck : Outcome → Ended
ended_of_deck outcomes.Accepted = Accepted
ended_of_deck outcomes.Refused = Refused

-- How a task ends for an input.
abbrev pub TaskEnds : Task → Ended → List ℕ → Type 0
TaskEnds (tasks.Run size) ended input =
    (outcome : Outcome)
    × decks.DeckEnds (registers_of size) input outcome
    × (ended ≡ ended_of_deck outcome)
TaskEnds (tasks.Assemble origin) ended input = AssemblyEnds origin ended input
TaskEnds (tasks.List origin) ended input = ListingEnds ended input

-- How a task can end.
abbrev pub MayEnd : Task → Ended → Type 0
MayEnd (tasks.Run size) = HasNoWrongWord
MayEnd (tasks.Assemble origin) = HasNoWrongWord
MayEnd (tasks.List origin) = IsNotRefused

-- An input that is too long, for which nothing is printed.
pub record IsTooLong (input text : List ℕ) : Type 0 where
  pub too_long : most_bytes < length input
  pub nothing : text ≡ []

-- After an error, such a text is written for the bytes of a deck that were read within the limit.
pub record WritesOfRead {R W : Type 0} (text_of : List ℕ → List ℕ → Type 0)
    (source : sources.Ghosts R) (sink : sinks.Ghosts W) (before after : R) (old new : W)
    : Type 0 where
  pub bytes : List ℕ
  pub read : Consumes (source.remaining before) (source.remaining after) bytes
  pub written : WritesTextOf text_of (sink.contents old) (sink.contents new) (bytes_within bytes)

-- More of a deck was read than the limit, and the replies to the commands whose last line end is
-- within the limit are written and flushed.
pub record LeavesTooLong {R W : Type 0} (registers : ℕ) (source : sources.Ghosts R)
    (sink : sinks.Ghosts W) (before after : R) (old new : W) : Type 0 where
  pub bytes : List ℕ
  pub read : Consumes (source.remaining before) (source.remaining after) bytes
  pub too_long : most_bytes < length bytes
  pub given : GivesTooMany (source.given before) (source.given after)
  pub written :
      WritesTextOf (decks.EndedText registers) (sink.contents old) (sink.contents new)
      (bytes_within bytes)
  pub flushed : sink.flushed new ≡ true

-- More of another input was read than the limit, and nothing is printed.
abbrev pub LeavesNothing : {R W : Type 0} → sources.Ghosts R → sinks.Ghosts W → R → R → W → W
    → Type 0
LeavesNothing source sink before after old new =
    GivesTooMany (source.given before) (source.given after)
    × IfSome (source.remaining before)
    (WritesTextOf IsTooLong (sink.contents old) (sink.contents new))

-- Why ReadFault (22) is reported although no read failed: a deck or another input is too long.
abbrev pub TooLong : {R W : Type 0} → Task → sources.Ghosts R → sinks.Ghosts W → R → R → W → W
    → Type 0
TooLong (tasks.Run size) source sink before after old new =
    LeavesTooLong (registers_of size) source sink before after old new
TooLong (tasks.Assemble origin) source sink before after old new =
    LeavesNothing source sink before after old new
TooLong (tasks.List origin) source sink before after old new =
    LeavesNothing source sink before after old new

-- Why reading ends with an error: a read failed, or the input is too long.
abbrev pub FailedOrTooLong : {R W : Type 0} → Task → sources.Ghosts R → sinks.Ghosts W → R → R → W
    → W → Type 0
FailedOrTooLong task source sink before after old new =
    (source.failed after ≡ true) ⊎ TooLong task source sink before after old new

-- What a task leaves written if reading or allocation failed: of a deck the replies to the first
-- commands that were read, of a source or a list of words nothing.
abbrev pub LeavesPartial : {R W : Type 0} → Task → sources.Ghosts R → sinks.Ghosts W → R → R → W → W
    → Type 0
LeavesPartial (tasks.Run size) source sink before after old new =
    WritesOfRead (decks.FirstText (registers_of size)) source sink before after old new
LeavesPartial (tasks.Assemble origin) source sink before after old new =
    Keeps (sink.contents old) (sink.contents new)
LeavesPartial (tasks.List origin) source sink before after old new =
    Keeps (sink.contents old) (sink.contents new)

-- What a task leaves written if reading failed: of a deck the replies to all commands whose last
-- line end was read.
abbrev pub LeavesUnread : {R W : Type 0} → Task → sources.Ghosts R → sinks.Ghosts W → R → R → W → W
    → Type 0
LeavesUnread (tasks.Run size) source sink before after old new =
    WritesOfRead (decks.EndedText (registers_of size)) source sink before after old new
LeavesUnread (tasks.Assemble origin) source sink before after old new =
    Keeps (sink.contents old) (sink.contents new)
LeavesUnread (tasks.List origin) source sink before after old new =
    Keeps (sink.contents old) (sink.contents new)

-- What a task leaves written if allocation failed: of a deck the replies to some first commands,
-- after which allocation can fail; of a source or a list of words nothing.
abbrev pub LeavesMemory : {R W : Type 0} → Task → sources.Ghosts R → sinks.Ghosts W → R → R → W → W
    → Type 0
LeavesMemory (tasks.Run size) source sink before after old new =
    WritesOfRead (decks.MemoryText (registers_of size)) source sink before after old new
LeavesMemory (tasks.Assemble origin) source sink before after old new =
    Keeps (sink.contents old) (sink.contents new)
LeavesMemory (tasks.List origin) source sink before after old new =
    Keeps (sink.contents old) (sink.contents new)

-- A prefix of the replies to the first commands of a deck that were read is written.
pub record WritesFrontOfRead {R W : Type 0} (registers : ℕ) (source : sources.Ghosts R)
    (sink : sinks.Ghosts W) (before after : R) (old new : W) : Type 0 where
  pub bytes : List ℕ
  pub read : Consumes (source.remaining before) (source.remaining after) bytes
  pub written :
      WritesFrontOf (decks.FirstText registers) (sink.contents old) (sink.contents new)
      (bytes_within bytes)

-- What a task leaves written if the output failed: a prefix of these replies, or of the text of the
-- source or list.
abbrev pub LeavesFront : {R W : Type 0} → Task → sources.Ghosts R → sinks.Ghosts W → R → R → W → W
    → Type 0
LeavesFront (tasks.Run size) source sink before after old new =
    WritesFrontOfRead (registers_of size) source sink before after old new
LeavesFront (tasks.Assemble origin) source sink before after old new =
    IfSome (source.remaining before)
    (WritesFrontOf (AssemblyText origin) (sink.contents old) (sink.contents new))
LeavesFront (tasks.List origin) source sink before after old new =
    IfSome (source.remaining before)
    (WritesFrontOf ListingText (sink.contents old) (sink.contents new))

-- Unless writing failed, everything that is written for a deck is flushed. For a source and a list
-- of words nothing is written.
abbrev pub IsPassedOn : Task → Bool → Type 0
IsPassedOn (tasks.Run size) flushed = flushed ≡ true
IsPassedOn (tasks.Assemble origin) flushed = Unit {0}
IsPassedOn (tasks.List origin) flushed = Unit {0}

-- If a job has status 3 and the output did not fail, everything that is written for a deck is
-- flushed.
abbrev pub JobPassedOn : ℕ → Job → Bool → Bool → Type 0
JobPassedOn status job failed flushed = status ≡ 3 → failed ≡ false → IsPassedOn job.task flushed

-- If a job has status 3 and the output did not fail, it leaves this written.
abbrev pub JobLeavesPartial : {R W : Type 0} → ℕ → Job → sources.Ghosts R → sinks.Ghosts W → R → R
    → W → W → Type 0
JobLeavesPartial status job source sink before after old new =
    status ≡ 3 → sink.failed new ≡ false
    → LeavesPartial job.task source sink before after old new

-- If a read failed, the job leaves this written.
abbrev pub JobLeavesUnread : {R W : Type 0} → Job → sources.Ghosts R → sinks.Ghosts W → R → R → W
    → W → Type 0
JobLeavesUnread job source sink before after old new =
    source.failed after ≡ true → LeavesUnread job.task source sink before after old new

-- If a job has status 3 and the output failed, it leaves this written.
abbrev pub JobLeavesFront : {R W : Type 0} → ℕ → Job → sources.Ghosts R → sinks.Ghosts W → R → R → W
    → W → Type 0
JobLeavesFront status job source sink before after old new =
    status ≡ 3 → sink.failed new ≡ true
    → LeavesFront job.task source sink before after old new

-- If the reads of a deck are known, they are all in turn: at each of them, the replies to all
-- commands whose last line end was read are written and flushed, and nothing else is written. A
-- source and a list of words are read completely before anything is written, so that nothing is
-- claimed of their reads.
abbrev pub TaskInTurn : Task → Option (List ReadEvent) → Option (List ReadEvent) → Option (List ℕ)
    → Type 0
TaskInTurn (tasks.Run size) before after old =
    decks.ReadsInTurn (registers_of size) before after old
TaskInTurn (tasks.Assemble origin) before after old = Unit {0}
TaskInTurn (tasks.List origin) before after old = Unit {0}

-- A text is written completely and flushed. If the stream fails, a prefix of it is written, and
-- nothing after that.
pub record Tells {E : Type 0} (stderr : sinks.Ghosts E) (old new : E) (text : List ℕ) : Type 0 where
  pub whole : stderr.failed new ≡ false → Appended stderr.contents old new text
  pub flushed : stderr.failed new ≡ false → stderr.flushed new ≡ true
  pub front : stderr.failed new ≡ true → AppendsFront stderr.contents old new text

-- The number of the wrong word is reported, and nothing else.
abbrev pub TellsMistake : {E : Type 0} → Task → Option (List ℕ) → sinks.Ghosts E → E → E → Type 0
TellsMistake task known stderr old new =
    (number : ℕ)
    × IfSome known (TaskEnds task (WrongWord number))
    × Tells stderr old new (mistake_line number)

-- A job with status 2 reports a wrong word.
abbrev pub TellsWord : {R E : Type 0} → ℕ → Job → sources.Ghosts R → sinks.Ghosts E → R → E → E
    → Type 0
TellsWord status job source stderr before old new =
    status ≡ 2 → TellsMistake job.task (source.remaining before) stderr old new
