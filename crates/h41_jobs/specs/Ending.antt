-- The result of the words of a command line: a job, or how the program ends.
use Rattle.std.specs.Prelude.{◌≡◌, ◌≢◌, ◌⊎◌, ℕ, List, [], Option, Some, None, MatchOption, Result}
use Rattle.std.specs.Prelude.{MatchResult, IfNone, IfOk, IsErrAnd, codes, if◌then◌else◌}
use Rattle.std.specs.Prelude.{string_bytes}
use Rattle.std.specs.Str.{bytes_eq}
use Rattle.clap.specs.Words.{IsAmong, Kinds, Text, fault_of}
use Rattle.h41_jobs.specs.BenchCommand.{bench_app, command_asked, job_asked}
use Rattle.clap.specs.declared.error.kind.ErrorKind.{ErrorKind}
use Rattle.clap.specs.declared.error.kind.ErrorKind.TheVariants as kinds
use Rattle.h41_jobs.specs.declared.arguments.Ending.{Ending}
use Rattle.h41_jobs.specs.declared.arguments.Ending.TheVariants as endings
use Rattle.h41_jobs.specs.declared.arguments.Job.{Job}
use Rattle.h41_jobs.specs.declared.arguments.Task.{Task}
use Rattle.h41_jobs.specs.declared.arguments.Task.TheVariants as tasks
use Rattle.h41_jobs.specs.declared.memory.MemorySize.{MemorySize}
use Rattle.h41_jobs.specs.declared.memory.MemorySize.TheVariants as sizes

-- The exit status of the program.
abbrev pub status_of : Ending → ℕ
status_of (endings.Help text) = 0
status_of (endings.Mistake text) = 2
status_of endings.OutOfMemory = 3

-- The program ends with this status, unless allocation failed.
abbrev pub EndsWith : ℕ → Ending → Type 0
EndsWith status ending = (status_of ending ≡ status) ⊎ (ending ≡ endings.OutOfMemory)

-- The status for an error of a parse, by its kind: 0 if help or the version is asked for, 2 for any
-- other.
abbrev pub kind_status : ErrorKind → ℕ
kind_status kinds.DisplayHelp = 0
kind_status kinds.DisplayVersion = 0
kind_status other = 2

-- The program ends with the status of one of these kinds.
abbrev pub EndsByKind : Kinds → Ending → Type 0
EndsByKind kinds ending =
    (kind : ErrorKind) × IsAmong kind kinds × (status_of ending ≡ kind_status kind)

-- An error of this kind is neither help nor the version.
pub record IsNoHelp (kind : ErrorKind) : Type 0 where
  pub no_help : kind ≢ kinds.DisplayHelp
  pub no_version : kind ≢ kinds.DisplayVersion

-- There is no job, and the program ends with this status.
abbrev pub EndsAtOnce : ℕ → Result Job Ending → Type 0
EndsAtOnce status result = IsErrAnd result (EndsWith status)

-- If a parse refuses the words, there is no job, and the status is that of a kind that its error
-- may have.
abbrev pub RefusedByKind : List (List ℕ) → Result Job Ending → Type 0
RefusedByKind words result = fault_of bench_app words ≢ []
    → IsErrAnd result
    (λ ending. (ending ≡ endings.OutOfMemory) ⊎ EndsByKind (fault_of bench_app words) ending)

-- The message about a wrong size of memory.
abbrev pub memory_mistake : List ℕ
memory_mistake =
    codes "error: wrong value of --memory: expected 64, 128, 192, 256 or 320\n"

-- The message about a wrong origin.
abbrev pub origin_mistake : List ℕ
origin_mistake = codes "error: wrong value of --origin: expected four hexadecimal digits\n"

-- The message about the option of a command that has a wrong value: a size of memory for `run`,
-- otherwise an origin.
abbrev pub option_mistake : Option Text → List ℕ
option_mistake None = origin_mistake
option_mistake (Some command) =
    if bytes_eq command (codes "run") then memory_mistake else origin_mistake

-- The words are wrong, which this text says, unless allocation failed.
abbrev pub SaysMistake : List ℕ → Ending → Type 0
SaysMistake text (endings.Help said) = ⊥
SaysMistake text (endings.Mistake said) = string_bytes said ≡ text
SaysMistake text endings.OutOfMemory = Unit {0}

-- If a parse accepts the words and the value of the option is wrong, this message is printed.
abbrev pub SaysWrongOption : List (List ℕ) → Result Job Ending → Type 0
SaysWrongOption words result = fault_of bench_app words ≡ []
    → IfNone (job_asked words)
    (IsErrAnd result (SaysMistake (option_mistake (command_asked words))))

-- The job has this task and this file.
pub record IsJob (job : Job) (task : Task) (file : List ℕ) : Type 0 where
  pub task_is : job.task ≡ task
  pub file_is : job.file.now ≡ file

-- The task of a job and its file.
abbrev pub parts_of : Job → Task × List ℕ
parts_of job = (job.task, job.file.now)

-- There is a job with these parts, unless allocation failed.
abbrev pub AsksFor : Result Job Ending → Task × List ℕ → Type 0
AsksFor result parts =
    MatchResult result (λ job. parts_of job ≡ parts) (λ ending. ending ≡ endings.OutOfMemory)

-- There is a job with this task and this file, unless allocation failed.
abbrev pub AsksTo : Result Job Ending → Task → List ℕ → Type 0
AsksTo result task file = AsksFor result (task, file)

-- There is no run, with whatever memory.
abbrev pub AsksForNoRun : Result Job Ending → Type 0
AsksForNoRun result = IfOk result (λ job. (size : MemorySize) → job.task ≢ tasks.Run size)

-- There is a run of this file with 320 registers, unless allocation failed.
abbrev pub AsksToRun : Result Job Ending → List ℕ → Type 0
AsksToRun result file =
    MatchResult result (λ job. IsJob job (tasks.Run sizes.Cv) file)
    (λ ending. ending ≡ endings.OutOfMemory)

-- There is a job with these parts, or status 2 if there are none.
abbrev pub GivesJob : Option (Task × List ℕ) → Result Job Ending → Type 0
GivesJob asked result = MatchOption asked (EndsAtOnce 2 result) (AsksFor result)

-- If a parse accepts the words, the job that it finds is returned, or status 2 if its size of
-- memory or its origin is wrong.
abbrev pub GivesJobOf : List (List ℕ) → Result Job Ending → Type 0
GivesJobOf words result = fault_of bench_app words ≡ [] → GivesJob (job_asked words) result
