-- The exit statuses of the program, and what they mean.
use Rattle.std.specs.Prelude.{◌≡◌, ◌≢◌, ◌⊎◌, ℕ, Bool, true, false, List}
use Rattle.h41_ends.specs.declared.sink.Sink as sinks
use Rattle.h41_ends.specs.declared.source.Source as sources
use Rattle.h41_refusals.specs.declared.fault.Fault.{Fault}
use Rattle.h41_refusals.specs.declared.fault.Fault.TheVariants.{OutOfMemory, ReadFault, WriteFault}
use Rattle.h41_refusals.specs.Refusals.{of_fault, refusal_line}
use Rattle.h41_jobs.specs.declared.arguments.Job.{Job}
use Rattle.h41_jobs.specs.declared.arguments.Task.{Task}
use Rattle.h41_jobs.specs.declared.arguments.Task.TheVariants as tasks
use Rattle.h41_jobs.specs.declared.ended.Ended.{Ended}
use Rattle.h41_jobs.specs.declared.ended.Ended.TheVariants.{Accepted, Refused, WrongWord}
use Rattle.h41_serving.specs.Tasks.{FailedOrTooLong, LeavesMemory, TaskEnds, Tells}

-- The status of a deck or a source that was begun: 0, 1 or 3.
abbrev pub IsStatus : ℕ → Type 0
IsStatus status = (status ≡ 0) ⊎ ((status ≡ 1) ⊎ (status ≡ 3))

-- The status of a list of words: 0, 2 or 3.
abbrev pub IsListStatus : ℕ → Type 0
IsListStatus status = (status ≡ 0) ⊎ ((status ≡ 2) ⊎ (status ≡ 3))

-- The status of a task that was begun.
abbrev pub IsTaskStatus : Task → ℕ → Type 0
IsTaskStatus (tasks.Run size) = IsStatus
IsTaskStatus (tasks.Assemble origin) = IsStatus
IsTaskStatus (tasks.List origin) = IsListStatus

-- The status that says how a job ended.
abbrev pub status_of_ended : Ended → ℕ
status_of_ended Accepted = 0
status_of_ended Refused = 1
status_of_ended (WrongWord number) = 2

-- The task ends with this status for the input.
abbrev pub EndsTask : Task → ℕ → List ℕ → Type 0
EndsTask task status input =
    (ended : Ended) × TaskEnds task ended input × (status ≡ status_of_ended ended)

-- The job ends with this status for the input.
abbrev pub EndsJob : Job → ℕ → List ℕ → Type 0
EndsJob job status input = EndsTask job.task status input

-- The line that reports an error.
abbrev pub fault_line : Fault → List ℕ
fault_line fault = refusal_line (of_fault fault)

-- If the error flag of a stream is set at the end, something failed, and the status is 3.
abbrev pub ErrorFlagGivesStatus : ℕ → Bool → Type 0
ErrorFlagGivesStatus status flag = flag ≡ true → status ≡ 3

-- What an error says of the streams. ReadFault (22): a read failed or the input was too long.
-- WriteFault (23): a write failed. OutOfMemory (21): neither failed, and allocation can fail after
-- what was written.
pub record IsCause {R W : Type 0} (fault : Fault) (task : Task) (source : sources.Ghosts R)
    (sink : sinks.Ghosts W) (before after : R) (old new : W) : Type 0 where
  pub read : fault ≡ ReadFault → FailedOrTooLong task source sink before after old new
  pub write : fault ≡ WriteFault → sink.failed new ≡ true
  pub memory : fault ≡ OutOfMemory → LeavesMemory task source sink before after old new
  pub not_read : fault ≢ ReadFault → source.failed after ≡ false
  pub not_write : fault ≢ WriteFault → sink.failed new ≡ false

-- An error that says correctly what failed and is reported, as far as the stream for errors accepts
-- its line.
pub record IsReported {R W E : Type 0} (task : Task) (source : sources.Ghosts R)
    (sink : sinks.Ghosts W) (stderr : sinks.Ghosts E) (before after : R) (old new : W)
    (stderr_old stderr_new : E) : Type 0 where
  pub fault : Fault
  pub cause : IsCause fault task source sink before after old new
  pub line : Tells stderr stderr_old stderr_new (fault_line fault)

-- A job with status 3 has reported such an error.
abbrev pub TellsFault : {R W E : Type 0} → ℕ → Task → sources.Ghosts R → sinks.Ghosts W
    → sinks.Ghosts E → R → R → W → W → E → E → Type 0
TellsFault status task source sink stderr before after old new stderr_old stderr_new =
    status ≡ 3 → IsReported task source sink stderr before after old new stderr_old stderr_new
