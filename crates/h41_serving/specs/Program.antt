-- What the program does with the words of its command line: what it reads, prints and reports, and
-- its status.
use Rattle.std.specs.Prelude.{◌≡◌, ◌≢◌, ◌⊎◌, ℕ, ◌≤◌, Bool, true, false, List, [], ◌∷◌, ◌++◌, codes}
use Rattle.std.specs.Prelude.{drop, Option, Some, Result, IfNone, IfSome, MatchBool, MatchResult}
use Rattle.std.specs.Prelude.{string_bytes}
use Rattle.std.specs.Borrow.{Bor}
use Rattle.std.specs.Fn.{CalledAt, Mut}
use Rattle.std.specs.Str.{bytes_eq}
use Rattle.clap.specs.Words.{IsAmong, Kinds, fault_of}
use Rattle.clap.specs.declared.error.kind.ErrorKind.{ErrorKind}
use Rattle.h41_ends.specs.declared.sink.Sink as sinks
use Rattle.h41_ends.specs.declared.source.FromRead.{FromRead}
use Rattle.h41_ends.specs.declared.source.Source as sources
use Rattle.h41_ends.specs.Ends.{GivesWithin, has_read_failed, read_given, reader_of}
use Rattle.h41_refusals.specs.declared.fault.Fault.{Fault}
use Rattle.h41_refusals.specs.declared.fault.Fault.TheVariants.{OutOfMemory, ReadFault, WriteFault}
use Rattle.h41_jobs.specs.BenchCommand.{bench_app, command_asked, job_asked}
use Rattle.h41_jobs.specs.CommandLine.{asks_help, asks_version, file_for, gives_twice}
use Rattle.h41_jobs.specs.CommandLine.{gives_wrong_value, is_mistake}
use Rattle.h41_jobs.specs.Ending.{kind_status, option_mistake, parts_of}
use Rattle.h41_jobs.specs.declared.arguments.Ending.{Ending}
use Rattle.h41_jobs.specs.declared.arguments.Ending.TheVariants as endings
use Rattle.h41_jobs.specs.declared.arguments.Job.{Job}
use Rattle.h41_jobs.specs.declared.arguments.Task.{Task}
use Rattle.h41_jobs.specs.declared.arguments.Task.TheVariants as tasks
use Rattle.h41_jobs.specs.declared.memory.MemorySize.TheVariants as sizes
use Rattle.h41_serving.specs.Causes.{IsSaid, cause_line}
use Rattle.h41_serving.specs.Statuses.{EndsJob, ErrorFlagGivesStatus, IsCause, IsTaskStatus}
use Rattle.h41_serving.specs.Statuses.{fault_line}
use Rattle.h41_serving.specs.Tasks.{JobLeavesFront, JobLeavesPartial, JobLeavesUnread, JobPassedOn}
use Rattle.h41_serving.specs.Tasks.{JobWritesText, Tells, TellsWord}

-- The words with the program's own name as the first, whatever that was.
abbrev pub with_own_name : List (List ℕ) → List (List ℕ)
with_own_name words = codes "bench" ∷ drop 1 words

-- The message if a word is not UTF-8.
abbrev pub no_text : List ℕ
no_text = codes "error: a word of the command line is not UTF-8\n"

-- The status after a message about wrong words: 3 if it could not be written.
abbrev pub mistake_status : Bool → ℕ
mistake_status false = 2
mistake_status true = 3

-- The status after a text that was asked for: 3 if it could not be printed.
abbrev pub print_status : Bool → ℕ
print_status false = 0
print_status true = 3

-- A file cannot be opened: the line of ReadFault (22), followed by the operating system's message.
abbrev pub TellsUnopened : {E : Type 0} → sinks.Ghosts E → E → E → List ℕ → Type 0
TellsUnopened stderr old new file =
    (cause : List ℕ) × Tells stderr old new (fault_line ReadFault ++ cause_line file cause)

-- ---- There is no job.

module _ {W E : Type 0} (sink : sinks.Ghosts W) (stderr : sinks.Ghosts E) (old new : W)
    (stderr_old stderr_new : E) (status : ℕ) where
  -- A text that was asked for is printed. If that fails, the error is reported.
  pub record PrintsText (text : List ℕ) : Type 0 where
    pub ends : status ≡ print_status (sink.failed new)
    pub printed : Tells sink old new text
    pub silent : sink.failed new ≡ false → stderr_new ≡ stderr_old
    pub fault : sink.failed new ≡ true → Tells stderr stderr_old stderr_new (fault_line WriteFault)

  -- A message about wrong words is written, and nothing is printed.
  pub record TellsWrong (text : List ℕ) : Type 0 where
    pub ends : status ≡ mistake_status (stderr.failed stderr_new)
    pub line : Tells stderr stderr_old stderr_new text
    pub silent : new ≡ old

  -- OutOfMemory (21) is reported, and nothing is printed.
  pub record TellsOut : Type 0 where
    pub ends : status ≡ 3
    pub line : Tells stderr stderr_old stderr_new (fault_line OutOfMemory)
    pub silent : new ≡ old

  -- What the program does instead of a job.
  abbrev pub EndsAtOnce : Ending → Type 0
  EndsAtOnce (endings.Help text) = PrintsText (string_bytes text)
  EndsAtOnce (endings.Mistake text) = TellsWrong (string_bytes text)
  EndsAtOnce endings.OutOfMemory = TellsOut

-- ---- A job with the bytes of a reader.

module _ {R W E : Type 0} (source : sources.Ghosts R) (sink : sinks.Ghosts W)
    (stderr : sinks.Ghosts E) (before after : R) (old new : W) (stderr_old stderr_new : E)
    (status : ℕ) where
  -- The error says correctly what failed, and its line is reported, followed by the operating
  -- system's message about the job's file if a read failed.
  pub record TellsFaultOf (job : Job) : Type 0 where
    pub fault : Fault
    pub cause : IsCause fault job.task source sink before after old new
    pub said : List ℕ
    pub says : IsSaid job.file.now (source.failed after) said
    pub line : Tells stderr stderr_old stderr_new (fault_line fault ++ said)

  -- What `serve` promises, with such reports of errors.
  pub record ServesNamed (job : Job) : Type 0 where
    pub ends : IsTaskStatus job.task status
    pub text : JobWritesText status job source sink before old new
    pub flushed : status ≢ 3 → sink.flushed new ≡ true
    pub outcome : status ≢ 3 → IfSome (source.remaining before) (EndsJob job status)
    pub silent : status ≤ 1 → stderr_new ≡ stderr_old
    pub mistake : TellsWord status job source stderr before stderr_old stderr_new
    pub reader : ErrorFlagGivesStatus status (source.failed after)
    pub writer : ErrorFlagGivesStatus status (sink.failed new)
    pub partial : JobLeavesPartial status job source sink before after old new
    pub within : GivesWithin (source.given before) (source.given after)
    pub unread : JobLeavesUnread job source sink before after old new
    pub cut : JobLeavesFront status job source sink before after old new
    pub passed : JobPassedOn status job (sink.failed new) (sink.flushed new)
    pub fault : status ≡ 3 → TellsFaultOf job

-- ---- The program, with the function that opens a file, the place for the source over the opened
-- file, standard input, the output and the stream for errors.

module _ {O R X W E : Type 0} (opener : Mut O (Bor (List ℕ) × Unit {0}) (Result R X))
    (source : sources.Ghosts (FromRead R)) (sink : sinks.Ghosts W) (stderr : sinks.Ghosts E)
    (opener_old opener_new : O) (file_old file_new : Option (FromRead R))
    (input_old input_new : FromRead R) (old new : W) (stderr_old stderr_new : E) (status : ℕ) where
  -- No file is opened, and standard input is not read.
  pub record LeavesInputs : Type 0 where
    pub unopened : opener_new ≡ opener_old
    pub kept : file_new ≡ file_old
    pub unread : input_new ≡ input_old

  -- Allocation failed before there was anything to do.
  pub record RunsOut : Type 0 where
    pub inputs : LeavesInputs
    pub out : TellsOut sink stderr old new stderr_old stderr_new status

  -- A text that was asked for is printed.
  pub record EndsPrinted (text : List ℕ) : Type 0 where
    pub inputs : LeavesInputs
    pub prints : PrintsText sink stderr old new stderr_old stderr_new status text

  -- The words are wrong, which a message says.
  pub record EndsMistaken (text : List ℕ) : Type 0 where
    pub inputs : LeavesInputs
    pub tells : TellsWrong sink stderr old new stderr_old stderr_new status text

  -- A job with standard input; no file is opened.
  pub record DoesJobOfInput (job : Job) : Type 0 where
    pub unopened : opener_new ≡ opener_old
    pub kept : file_new ≡ file_old
    pub serves :
        ServesNamed source sink stderr input_old input_new old new stderr_old stderr_new status job

  -- A job with an opened file. `before` is a new source over it, and `after` is that source as the
  -- job leaves it, which the caller receives.
  pub record DoesJobOver (job : Job) (file : R) : Type 0 where
    pub before : FromRead R
    pub after : FromRead R
    pub reader : reader_of before ≡ file
    pub clear : has_read_failed before ≡ false
    pub given : read_given before ≡ 0
    pub serves :
        ServesNamed source sink stderr before after old new stderr_old stderr_new status job
    pub received : file_new ≡ Some after

  -- The file cannot be opened.
  pub record IsUnopened (job : Job) : Type 0 where
    pub ends : status ≡ 3
    pub kept : file_new ≡ file_old
    pub silent : new ≡ old
    pub line : TellsUnopened stderr stderr_old stderr_new job.file.now

  -- A job with the file that it names, which is opened; standard input is not read.
  pub record DoesJobOfFile (job : Job) : Type 0 where
    pub unread : input_new ≡ input_old
    pub opened : Result R X
    pub opens : CalledAt opener opener_old job.file.now opened opener_new
    pub does : MatchResult opened (DoesJobOver job) (λ error. IsUnopened job)

  -- The name of standard input is `-`.
  abbrev pub DoesJob : Job → Type 0
  DoesJob job =
      MatchBool (bytes_eq job.file.now (codes "-")) (DoesJobOfInput job) (DoesJobOfFile job)

  -- A job with this task and this file is done.
  pub record DoesJobOf (parts : Task × List ℕ) : Type 0 where
    pub job : Job
    pub parts_are : parts_of job ≡ parts
    pub does : DoesJob job

  -- A parse refuses the words, with an error of one of these kinds.
  pub record EndsRefused (kinds : Kinds) : Type 0 where
    pub kind : ErrorKind
    pub among : IsAmong kind kinds
    pub text : List ℕ
    pub asked : kind_status kind ≡ 0 → EndsPrinted text
    pub mistaken : kind_status kind ≡ 2 → EndsMistaken text

  -- What is done for the words of any command line: the job that a parse finds in them, or if the
  -- value of its option is wrong, a message that says so; if the parse refuses them, help, the
  -- version or a message.
  pub record AnswersWords (words : List (List ℕ)) : Type 0 where
    pub job :
        fault_of bench_app words ≡ []
        → IfSome (job_asked words) (λ parts. RunsOut ⊎ DoesJobOf parts)
    pub option :
        fault_of bench_app words ≡ []
        → IfNone (job_asked words)
        (RunsOut ⊎ EndsMistaken (option_mistake (command_asked words)))
    pub refused :
        fault_of bench_app words ≢ [] → RunsOut ⊎ EndsRefused (fault_of bench_app words)

  -- What is done for plain command lines, without reference to a parse: help, the version or a job
  -- without an option is asked for; or a command or FILE is missing, there are two FILEs, or the
  -- option is given twice or has a wrong value.
  pub record AnswersPlainly (words : List (List ℕ)) : Type 0 where
    pub run :
        IfSome (file_for (codes "run") words)
        (λ file. RunsOut ⊎ DoesJobOf (tasks.Run sizes.Cv, file))
    pub asm :
        IfSome (file_for (codes "asm") words)
        (λ file. RunsOut ⊎ DoesJobOf (tasks.Assemble 0x8000, file))
    pub dis :
        IfSome (file_for (codes "dis") words)
        (λ file. RunsOut ⊎ DoesJobOf (tasks.List 0x8000, file))
    pub help : asks_help words ≡ true → RunsOut ⊎ ((text : List ℕ) × EndsPrinted text)
    pub version : asks_version words ≡ true → RunsOut ⊎ ((text : List ℕ) × EndsPrinted text)
    pub mistake : is_mistake words ≡ true → RunsOut ⊎ ((text : List ℕ) × EndsMistaken text)
    pub twice : gives_twice words ≡ true → RunsOut ⊎ ((text : List ℕ) × EndsMistaken text)
    pub value :
        gives_wrong_value words ≡ true
        → RunsOut ⊎ EndsMistaken (option_mistake (command_asked words))
