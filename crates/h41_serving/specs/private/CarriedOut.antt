-- What performing a task leaves.
use Rattle.std.specs.Prelude.{◌≡◌, ◌≢◌, ℕ, true, false, List, Result, Err, IfErr, IfOk, IfSome}
use Rattle.std.specs.Prelude.{OnOk}
use Rattle.std.specs.Io.KnownBytes.{Keeps}
use Rattle.h41_ends.specs.declared.sink.Sink as sinks
use Rattle.h41_ends.specs.declared.source.Source as sources
use Rattle.h41_ends.specs.Ends.{GivesWithin}
use Rattle.h41_deck.specs.Deck.{is_write_fault}
use Rattle.h41_refusals.specs.declared.fault.Fault.{Fault}
use Rattle.h41_refusals.specs.declared.fault.Fault.TheVariants.{OutOfMemory, ReadFault, WriteFault}
use Rattle.h41_jobs.specs.declared.arguments.Task.{Task}
use Rattle.h41_jobs.specs.declared.ended.Ended.{Ended}
use Rattle.h41_jobs.specs.Inputs.{IsUnread}
use Rattle.h41_serving.specs.Tasks.{FailedOrTooLong, IsPassedOn, LeavesFront, LeavesPartial}
use Rattle.h41_serving.specs.Tasks.{LeavesMemory, LeavesUnread, MayEnd, TaskEnds, WritesFrontOf}
use Rattle.h41_serving.specs.Tasks.{WritesTaskText, WritesTextOf}

-- How a task ends, and what it leaves written and read.
pub record CarriesOut {R W : Type 0} (task : Task) (result : Result Ended Fault)
    (source : sources.Ghosts R) (sink : sinks.Ghosts W) (before after : R) (old new : W)
    : Type 0 where
  pub text : OnOk result (WritesTaskText task (source.remaining before) sink.contents old new)
  pub ends : IfOk result (λ ended. IfSome (source.remaining before) (TaskEnds task ended))
  pub kind : IfOk result (MayEnd task)
  pub flushed : OnOk result (sink.flushed new ≡ true)
  pub read : result ≡ Err ReadFault → FailedOrTooLong task source sink before after old new
  pub partial :
      IfErr result
      (λ fault. fault ≢ WriteFault → LeavesPartial task source sink before after old new)
  pub unread : result ≡ Err ReadFault → LeavesUnread task source sink before after old new
  pub memory : result ≡ Err OutOfMemory → LeavesMemory task source sink before after old new
  pub cut : result ≡ Err WriteFault → LeavesFront task source sink before after old new
  pub passed : IfErr result (λ fault. fault ≢ WriteFault → IsPassedOn task (sink.flushed new))
  pub within : GivesWithin (source.given before) (source.given after)
  pub reader : result ≢ Err ReadFault → source.failed after ≡ false
  pub writer : sink.failed new ≡ is_write_fault result

-- A task whose input is read completely before anything is written: which text the input has, how
-- the task ends for it, and how it can end at all.
pub record CarriesOutWhole {R W : Type 0} (text_of : List ℕ → List ℕ → Type 0)
    (ends_of : Ended → List ℕ → Type 0) (may_end : Ended → Type 0) (result : Result Ended Fault)
    (source : sources.Ghosts R) (sink : sinks.Ghosts W) (before after : R) (old new : W)
    : Type 0 where
  pub text :
      OnOk result
      (IfSome (source.remaining before)
      (WritesTextOf text_of (sink.contents old) (sink.contents new)))
  pub ends : IfOk result (λ ended. IfSome (source.remaining before) (ends_of ended))
  pub kind : IfOk result may_end
  pub flushed : OnOk result (sink.flushed new ≡ true)
  pub unread : result ≡ Err ReadFault → IsUnread source before after
  pub nothing :
      IfErr result (λ fault. fault ≢ WriteFault → Keeps (sink.contents old) (sink.contents new))
  pub cut :
      result ≡ Err WriteFault
      → IfSome (source.remaining before)
      (WritesFrontOf text_of (sink.contents old) (sink.contents new))
  pub within : GivesWithin (source.given before) (source.given after)
  pub reader : result ≢ Err ReadFault → source.failed after ≡ false
  pub writer : sink.failed new ≡ is_write_fault result
