-- What performing a deck leaves.
use Rattle.std.proofs.Common.{inl, inr, ◌≡◌, ◌≢◌, ◌⊎◌, ℕ, true, false, List, Option, Some, None, Result, Ok, Err}
use Rattle.std.proofs.Common.{IfSome, ap, refl, sym, ◌∙◌}
use Rattle.h41_jobs.specs.declared.memory.MemorySize.{MemorySize}
use Rattle.h41_jobs.specs.declared.arguments.Task.TheVariants as tasks
use Rattle.h41_jobs.specs.MemorySizes.{registers_of}
use Rattle.h41_deck.specs.Deck as decks
use Rattle.h41_deck.specs.declared.replies.Outcome.{Outcome}
use Rattle.h41_deck.specs.declared.replies.Outcome.TheVariants as outcomes
use Rattle.h41_refusals.specs.declared.fault.Fault.{Fault}
use Rattle.h41_refusals.specs.declared.fault.Fault.TheVariants.{OutOfMemory, ReadFault, WriteFault}
use Rattle.h41_ends.specs.declared.sink.Sink as sinks
use Rattle.h41_ends.specs.declared.source.Source as sources
use Rattle.h41_ends.specs.Ends.{GivesWithin}
use Rattle.h41_jobs.specs.Texts.{HasNoWrongWord}
use Rattle.h41_serving.specs.Tasks.{LeavesTooLong, TaskEnds, WritesFrontOfRead, WritesOfRead, ended_of_deck}
use Rattle.h41_serving.specs.private.CarriedOut.{CarriesOut}

-- A deck ends as its outcome says.
ends_known : (size : MemorySize) (outcome : Outcome) (known : Option (List ℕ)) → decks.EndsKnown (registers_of size) known outcome
    → IfSome known (TaskEnds (tasks.Run size) (ended_of_deck outcome))
ends_known size outcome None ends = tt
ends_known size outcome (Some deck) ends = (outcome, ends, refl)

no_wrong_word : (outcome : Outcome) → HasNoWrongWord (ended_of_deck outcome)
no_wrong_word outcomes.Accepted = tt
no_wrong_word outcomes.Refused = tt

pub same_fault : {T E : Type 0} {a b : E} (r : Result T E) → r ≡ Err a → r ≡ Err b → a ≡ b
same_fault r is other = let same = sym is ∙ other in cc

module _ {R W : Type 0} (registers : ℕ) (source : sources.Ghosts R) (sink : sinks.Ghosts W) (before after : R) (old new : W) where
  leaves_begun : (fault : Fault) → decks.FaultLeaves registers fault source sink before after old new → fault ≢ WriteFault
      → WritesOfRead (decks.FirstText registers) source sink before after old new
  leaves_begun OutOfMemory left other =
      record { bytes = left.bytes; read = left.read; written = (left.leaves.0, left.leaves.1.0, left.leaves.2) }
  leaves_begun ReadFault left other =
      record { bytes = left.bytes; read = left.read; written = (left.leaves.0, left.leaves.1, left.leaves.3) }
  leaves_begun WriteFault left other = absurd (other refl)

  leaves_unread : decks.FaultLeaves registers ReadFault source sink before after old new
      → WritesOfRead (decks.EndedText registers) source sink before after old new
  leaves_unread left = record { bytes = left.bytes; read = left.read; written = (left.leaves.0, left.leaves.2, left.leaves.3) }

  leaves_memory : decks.FaultLeaves registers OutOfMemory source sink before after old new
      → WritesOfRead (decks.MemoryText registers) source sink before after old new
  leaves_memory left = record { bytes = left.bytes; read = left.read; written = left.leaves }

  leaves_front : decks.FaultLeaves registers WriteFault source sink before after old new
      → WritesFrontOfRead registers source sink before after old new
  leaves_front left = record { bytes = left.bytes; read = left.read; written = left.leaves }

  why_deck : decks.FaultLeaves registers ReadFault source sink before after old new → sink.flushed new ≡ true
      → (source.failed after ≡ true) ⊎ LeavesTooLong registers source sink before after old new
  why_deck left passed = elim (left.cause refl) [
    | inl failed ↦ inl failed
    | inr long ↦ elim (left.why refl) [
      | inl failed ↦ inl failed
      | inr more ↦ inr (record {
        bytes = left.bytes;
        read = left.read;
        too_long = long;
        given = more;
        written = (left.leaves.0, left.leaves.2, left.leaves.3);
        flushed = passed;
      })
    ]
  ]

module _ {R W : Type 0} (size : MemorySize) (source : sources.Ghosts R) (sink : sinks.Ghosts W) (before after : R) (old new : W) where
  pub run_failed : (fault : Fault) → decks.FaultLeaves (registers_of size) fault source sink before after old new
      → (fault ≢ WriteFault → sink.flushed new ≡ true) → (fault ≢ ReadFault → source.failed after ≡ false)
      → sink.failed new ≡ decks.is_of_write fault → GivesWithin (source.given before) (source.given after)
      → CarriesOut (tasks.Run size) (Err fault) source sink before after old new
  run_failed fault left passed reader writer within =
      let registers = registers_of size in record {
        text = tt;
        ends = tt;
        kind = tt;
        flushed = tt;
        read = λ is.
            let same = same_fault _ refl is in
            why_deck registers source sink before after old new (rw same at left) (rw same at passed (λ other. cc));
        partial = leaves_begun registers source sink before after old new fault left;
        unread = λ is. leaves_unread registers source sink before after old new (let same = same_fault _ refl is in rw same at left);
        memory = λ is. leaves_memory registers source sink before after old new (let same = same_fault _ refl is in rw same at left);
        cut = λ is. leaves_front registers source sink before after old new (let same = same_fault _ refl is in rw same at left);
        passed = passed;
        within = within;
        reader = λ ends. reader (λ is. ends (ap (λ (of : Fault). Err of) is));
        writer = writer;
      }

  pub run_ended : (outcome : Outcome) → decks.WritesDeck (registers_of size) (Ok outcome) (source.remaining before) sink.contents old new
      → decks.EndsKnown (registers_of size) (source.remaining before) outcome → sink.flushed new ≡ true
      → source.failed after ≡ false → sink.failed new ≡ false
      → GivesWithin (source.given before) (source.given after)
      → CarriesOut (tasks.Run size) (Ok (ended_of_deck outcome)) source sink before after old new
  run_ended outcome written ends flushed reader writer within = record {
    text = written;
    ends = ends_known size outcome (source.remaining before) ends;
    kind = no_wrong_word outcome;
    flushed = flushed;
    read = λ is. cc;
    partial = tt;
    unread = λ is. cc;
    memory = λ is. cc;
    cut = λ is. cc;
    passed = tt;
    within = within;
    reader = λ other. reader;
    writer = writer;
  }
