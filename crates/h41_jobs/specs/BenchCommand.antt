-- The command `bench` with its subcommands, as a parse sees it, and the job that the parse of some
-- words asks for.
use Rattle.std.specs.Prelude.{ℕ, Bool, List, Option, Some, None, true, codes, if◌then◌else◌}
use Rattle.std.specs.Prelude.{option_and_then, option_map}
use Rattle.std.specs.Str.{bytes_eq}
use Rattle.clap.specs.Words.{App, Row, Rule, Text, first_of, found_of, new_app, new_rule, rows_of}
use Rattle.clap.specs.Words.{subcommand_of, with_rule, with_subcommand}
use Rattle.clap.specs.declared.builder.command.Command.{Command}
use Rattle.clap.specs.declared.builder.command.Command.TheViews.{out-Command}
use Rattle.clap.specs.declared.parser.matches.ArgMatches.{ArgMatches}
use Rattle.clap.specs.declared.builder.action.ArgAction.TheVariants.{Set}
use Rattle.h41_lines.specs.Numbers.{hexadecimal}
use Rattle.h41_jobs.specs.declared.arguments.Task.{Task}
use Rattle.h41_jobs.specs.declared.arguments.Task.TheVariants as tasks
use Rattle.h41_jobs.specs.declared.memory.MemorySize.{MemorySize}
use Rattle.h41_jobs.specs.declared.memory.MemorySize.TheVariants as sizes
use Rattle.h41_jobs.specs.MemorySizes.{size_written}

-- The argument FILE, which is required.
abbrev pub file_rule : Rule
file_rule = record (new_rule (codes "FILE")) { required = true; action = Some Set }

-- An option with this name, which has a value.
abbrev pub option_rule : Text → Rule
option_rule name =
    record (new_rule name) { long = Some name; action = Some Set; value_names = 1 }

-- The option `--origin`.
abbrev pub origin_rule : Rule
origin_rule = option_rule (codes "origin")

-- The option `--memory`.
abbrev pub memory_rule : Rule
memory_rule = option_rule (codes "memory")

-- A command with an option and FILE.
abbrev pub option_app : Text → Rule → App
option_app name option = with_rule (with_rule (new_app name) option) file_rule

-- The command that runs a deck has a size of memory.
abbrev pub run_app : App
run_app = option_app (codes "run") memory_rule

-- The commands of the other tasks have an origin.
abbrev pub origin_app : Text → App
origin_app name = option_app name origin_rule

-- The command `bench` without subcommands: a subcommand is required, and there is a version to
-- print.
abbrev pub empty_bench : App
empty_bench =
    record (new_app (codes "bench")) {
      top = record (new_app (codes "bench")).top { has_version = true; subcommand_required = true };
    }

-- The command `bench` with its subcommands.
abbrev pub bench_app : App
bench_app =
    with_subcommand
    (with_subcommand (with_subcommand empty_bench run_app.top) (origin_app (codes "asm")).top)
    (origin_app (codes "dis")).top

-- Whether an argument of a command is global.
abbrev pub has_globals : Command → Bool
has_globals command = (out-Command command).has_globals

-- The name of the command that a parse found.
abbrev pub command_in : Option (Text × List Row) → Option Text
command_in = option_map (λ p. p.0)

-- The FILE of the command that a parse found.
abbrev pub file_in : Option (Text × List Row) → Option (Option Text)
file_in = option_map (λ p. first_of (codes "FILE") p.1)

-- The size that a value of `--memory` names: 320 registers if there is none.
abbrev pub memory_asked : Option Text → Option MemorySize
memory_asked None = Some sizes.Cv
memory_asked (Some text) = size_written text

-- The value of `--memory` that a parse found, if there is one.
abbrev pub memory_in : ArgMatches → Option Text
memory_in command = first_of (codes "memory") (rows_of (found_of command))

-- The address that the digits of an origin write: there are four of them.
abbrev pub origin_value : List ℕ → Option ℕ
origin_value digits = hexadecimal 4 4 digits

-- The address that a value of `--origin` names: 8000 if there is none.
abbrev pub origin_asked : Option Text → Option ℕ
origin_asked None = Some 0x8000
origin_asked (Some digits) = origin_value digits

-- The value of `--origin` that a parse found, if there is one.
abbrev pub origin_in : ArgMatches → Option Text
origin_in command = first_of (codes "origin") (rows_of (found_of command))

-- The task that the name of a command asks for, if its size of memory or its origin is right.
abbrev pub task_asked : Text → Option Text → Option Text → Option Task
task_asked name memory origin =
    if bytes_eq name (codes "run") then option_map (λ size. tasks.Run size) (memory_asked memory)
    else (if bytes_eq name (codes "asm")
    then option_map (λ address. tasks.Assemble address) (origin_asked origin)
    else (if bytes_eq name (codes "dis")
    then option_map (λ address. tasks.List address) (origin_asked origin)
    else None))

-- The task of a command that a parse found, and its FILE.
abbrev pub job_in : Option (Text × List Row) → Option (Task × Text)
job_in =
    option_and_then
    (λ p. option_and_then (λ task. option_map (λ file. (task, file)) (first_of (codes "FILE") p.1))
    (task_asked p.0 (first_of (codes "memory") p.1) (first_of (codes "origin") p.1)))

-- The task and the FILE of the command that a parse finds in these words.
abbrev pub job_asked : List Text → Option (Task × Text)
job_asked words = job_in (subcommand_of bench_app words)

-- The name of the command that a parse finds in these words.
abbrev pub command_asked : List Text → Option Text
command_asked words = command_in (subcommand_of bench_app words)
