-- How the program ends if a parse refuses its words, or an option in them is wrong.
use Rattle.std.proofs.Common.{inl, inr, refl, subst, List, Option, None, ◌≡◌, ◌⊎◌, Result}
use Rattle.std.specs.Prelude.{IfNone, IsErrAnd}
use Rattle.clap.specs.Words.{HasKind, HasMatchesOf, Kinds, Row, Text, kind_of, subcommand_rows_of}
use Rattle.clap.specs.declared.error.Error.{Error}
use Rattle.clap.specs.declared.error.kind.ErrorKind.{ErrorKind}
use Rattle.clap.specs.declared.error.kind.ErrorKind.TheVariants as kind
use Rattle.clap.specs.declared.parser.matches.ArgMatches.{ArgMatches}
use Rattle.h41_jobs.specs.BenchCommand.{bench_app, command_asked, command_in, job_asked, job_in}
use Rattle.h41_jobs.specs.declared.arguments.Ending.{Ending}
use Rattle.h41_jobs.specs.declared.arguments.Ending.TheVariants as endings
use Rattle.h41_jobs.specs.declared.arguments.Job.{Job}
use Rattle.h41_jobs.specs.declared.arguments.Task.{Task}
use Rattle.h41_jobs.specs.Ending.{EndsAtOnce, EndsByKind, EndsWith, GivesJob, IsNoHelp, SaysMistake, kind_status, option_mistake}

-- The status of an error's kind.
by_kind : (k : ErrorKind) (ending : Ending) → (k ≡ kind.DisplayHelp → EndsWith 0 ending)
    → (k ≡ kind.DisplayVersion → EndsWith 0 ending) → (IsNoHelp k → EndsWith 2 ending) → EndsWith (kind_status k) ending
by_kind kind.DisplayHelp ending help version mistake = help refl
by_kind kind.DisplayVersion ending help version mistake = version refl
by_kind _ ending help version mistake = mistake (record { no_help = λ is. cc; no_version = λ is. cc })

pub ends_by_kind : (kinds : Kinds) (error : Error) (ending : Ending) → HasKind kinds error
    → (kind_of error ≡ kind.OutOfMemory → ending ≡ endings.OutOfMemory) → (kind_of error ≡ kind.DisplayHelp → EndsWith 0 ending)
    → (kind_of error ≡ kind.DisplayVersion → EndsWith 0 ending) → (IsNoHelp (kind_of error) → EndsWith 2 ending)
    → (ending ≡ endings.OutOfMemory) ⊎ EndsByKind kinds ending
ends_by_kind kinds error ending (inl memory) out help version mistake = inl (out memory)
ends_by_kind kinds error ending (inr among) out help version mistake =
    elim (by_kind (kind_of error) ending help version mistake) [
      | inl status ↦ inr (kind_of error, among, status)
      | inr memory ↦ inl memory
    ]

-- The message about a wrong option, by the words.
pub said_of : (words : List Text) (m : ArgMatches) (result : Result Job Ending) → HasMatchesOf bench_app words m
    → IfNone (job_in (subcommand_rows_of m)) (IsErrAnd result (SaysMistake (option_mistake (command_in (subcommand_rows_of m)))))
    → IfNone (job_asked words) (IsErrAnd result (SaysMistake (option_mistake (command_asked words))))
said_of words m result matches said =
    subst
    (λ (met : Option (Text × List Row)). IfNone (job_in met) (IsErrAnd result (SaysMistake (option_mistake (command_in met)))))
    (matches refl).1 said

-- Allocation may fail.
pub said_out : (asked : Option Text) (ending : Ending) → ending ≡ endings.OutOfMemory → SaysMistake (option_mistake asked) ending
said_out asked ending is = rw is tt

-- A wrong value of an option ends the program.
pub ends_wrong : (asked : Option (Task × Text)) (result : Result Job Ending) → asked ≡ None → GivesJob asked result → EndsAtOnce 2 result
ends_wrong asked result none gives = rw none at gives
