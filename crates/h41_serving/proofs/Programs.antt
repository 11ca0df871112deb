-- What the program does, by the result of reading the words of its command line.
use Rattle.std.proofs.Common.{inl, inr, ◌≡◌, ◌≢◌, ◌⊎◌, ℕ, List, [], ◌∷◌, Option, Some, None, Result, Ok, Err}
use Rattle.std.proofs.Common.{IfNone, IfSome, String, ap, refl, string_bytes, subst, sym, ◌∙◌}
use Rattle.std.specs.Borrow.{Bor}
use Rattle.std.specs.Fn.{Mut}
use Rattle.std.specs.Global.{Global}
use Rattle.clap.specs.Words.{IsAmong, Kinds, fault_of}
use Rattle.clap.specs.declared.error.kind.ErrorKind.{ErrorKind}
use Rattle.clap.specs.declared.error.kind.ErrorKind.TheVariants as kind
use Rattle.h41_ends.specs.declared.sink.Sink as sinks
use Rattle.h41_ends.specs.declared.source.FromRead.{FromRead}
use Rattle.h41_ends.specs.declared.source.Source as sources
use Rattle.h41_jobs.specs.BenchCommand.{bench_app, command_asked, job_asked}
use Rattle.h41_jobs.specs.CommandLine.{file_for}
use Rattle.h41_jobs.specs.Ending.{GivesJob, GivesJobOf, RefusedByKind, SaysMistake, SaysWrongOption, kind_status, option_mistake}
use Rattle.h41_jobs.specs.declared.arguments.Ending.{Ending}
use Rattle.h41_jobs.specs.declared.arguments.Ending.TheVariants as endings
use Rattle.h41_jobs.specs.declared.arguments.Job.{Job}
use Rattle.h41_jobs.specs.declared.arguments.Task.{Task}
use Rattle.h41_jobs.proofs.CommandLemmas.{helps, if_none, if_some, mistakes, versions}
use Rattle.h41_jobs.proofs.CommandWalks.{CommandName, asm_name, dis_name, file_meets, name_text, run_name, task_named}
use Rattle.h41_jobs.proofs.TwiceGiven.{twice_refused}
use Rattle.h41_jobs.proofs.WrongValues.{wrong_value}
use Rattle.h41_serving.specs.Program.{AnswersPlainly, AnswersWords, DoesJob, DoesJobOf, EndsAtOnce, EndsMistaken, EndsPrinted}
use Rattle.h41_serving.specs.Program.{EndsRefused, LeavesInputs, RunsOut}

help_differs : (text : String Global) → endings.Help text ≡ endings.OutOfMemory → ⊥
help_differs text is = cc

mistake_differs : (text : String Global) → endings.Mistake text ≡ endings.OutOfMemory → ⊥
mistake_differs text is = cc

module _ {O R X W E : Type 0} (opener : Mut O (Bor (List ℕ) × Unit {0}) (Result R X))
    (source : sources.Ghosts (FromRead R)) (sink : sinks.Ghosts W) (stderr : sinks.Ghosts E)
    (opener_old opener_new : O) (file_old file_new : Option (FromRead R)) (input_old input_new : FromRead R)
    (old new : W) (stderr_old stderr_new : E) (status : ℕ) where
  abbrev Out : Type 0
  Out = RunsOut opener source sink stderr opener_old opener_new file_old file_new input_old input_new old new stderr_old stderr_new status

  abbrev Of : Task × List ℕ → Type 0
  Of = DoesJobOf opener source sink stderr opener_old opener_new file_old file_new input_old input_new old new stderr_old stderr_new status

  abbrev Mistaken : List ℕ → Type 0
  Mistaken =
      EndsMistaken opener source sink stderr opener_old opener_new file_old file_new input_old input_new
      old new stderr_old stderr_new status

  abbrev Printed : List ℕ → Type 0
  Printed =
      EndsPrinted opener source sink stderr opener_old opener_new file_old file_new input_old input_new
      old new stderr_old stderr_new status

  abbrev Refused : Kinds → Type 0
  Refused =
      EndsRefused opener source sink stderr opener_old opener_new file_old file_new input_old input_new
      old new stderr_old stderr_new status

  abbrev Words : List (List ℕ) → Type 0
  Words =
      AnswersWords opener source sink stderr opener_old opener_new file_old file_new input_old input_new
      old new stderr_old stderr_new status

  abbrev Inputs : Type 0
  Inputs =
      LeavesInputs opener source sink stderr opener_old opener_new file_old file_new input_old input_new
      old new stderr_old stderr_new status

  -- Allocation may fail for any words.
  pub answers_out : (words : List (List ℕ)) → Out → Words words
  answers_out words out = record {
    job = λ passed. if_some (job_asked words) _ (λ parts is. inl out);
    option = λ passed. if_none (job_asked words) _ (λ none. inl out);
    refused = λ other. inl out;
  }

  -- The words gave a job, which is done.
  pub answers_job : (words : List (List ℕ)) (job : Job) → RefusedByKind words (Ok job) → GivesJobOf words (Ok job)
      → DoesJob opener source sink stderr opener_old opener_new file_old file_new input_old input_new old new
      stderr_old stderr_new status job
      → Words words
  answers_job words job refused given does = record {
    job = λ passed. if_some (job_asked words) _ (λ parts is.
        let gives : GivesJob (Some parts) (Ok job) = subst (λ (of : Option (Task × List ℕ)). GivesJob of (Ok job)) is (given passed) in
        inr (record { job = job; parts_are = gives; does = does }));
    option = λ passed. if_none (job_asked words) _ (λ none.
        let gives : GivesJob None (Ok job) = subst (λ (of : Option (Task × List ℕ)). GivesJob of (Ok job)) none (given passed) in
        absurd gives);
    refused = λ other. absurd (refused other);
  }

  -- The words gave none, because help or the version was asked for.
  printed_kinds : (kinds : Kinds) (text : List ℕ) → (kind : ErrorKind) × IsAmong kind kinds × (0 ≡ kind_status kind)
      → Printed text → Refused kinds
  printed_kinds kinds text found prints = record {
    kind = found.0;
    among = found.1;
    text = text;
    asked = λ is. prints;
    mistaken = λ is. let both : 0 ≡ 2 = found.2 ∙ is in cc;
  }

  mistaken_kinds : (kinds : Kinds) (text : List ℕ) → (kind : ErrorKind) × IsAmong kind kinds × (2 ≡ kind_status kind)
      → Mistaken text → Refused kinds
  mistaken_kinds kinds text found tells = record {
    kind = found.0;
    among = found.1;
    text = text;
    asked = λ is. let both : 2 ≡ 0 = found.2 ∙ is in cc;
    mistaken = λ is. tells;
  }

  -- A job was asked for, and not given.
  not_given : (asked : Option (Task × List ℕ)) (ending : Ending) (parts : Task × List ℕ) → asked ≡ Some parts
      → GivesJob asked (Err ending) → ending ≡ endings.OutOfMemory
  not_given asked ending parts is gives = subst (λ (of : Option (Task × List ℕ)). GivesJob of (Err ending)) is gives

  -- The value of the option is wrong.
  wrong_option : (asked : Option (Task × List ℕ)) (ending : Ending) (text : List ℕ) → asked ≡ None
      → IfNone asked (SaysMistake text ending) → SaysMistake text ending
  wrong_option asked ending text is says =
      subst (λ (of : Option (Task × List ℕ)). IfNone of (SaysMistake text ending)) is says

  -- What the program does instead of a job.
  pub answers_ending : (words : List (List ℕ)) (ending : Ending) → RefusedByKind words (Err ending)
      → GivesJobOf words (Err ending) → SaysWrongOption words (Err ending) → Inputs
      → EndsAtOnce sink stderr old new stderr_old stderr_new status ending → Words words
  answers_ending words endings.OutOfMemory refused given option inputs ends =
      answers_out words (record { inputs = inputs; out = ends })
  answers_ending words (endings.Help text) refused given option inputs ends =
      let prints : Printed (string_bytes text) = record { inputs = inputs; prints = ends } in record {
        job = λ passed. if_some (job_asked words) _ (λ parts is. absurd (help_differs text (not_given _ _ parts is (given passed))));
        option = λ passed. if_none (job_asked words) _ (λ none.
            absurd (wrong_option _ (endings.Help text) (option_mistake (command_asked words)) none (option passed)));
        refused = λ other. elim (refused other) [
          | inl out ↦ absurd (help_differs text out)
          | inr found ↦ inr (printed_kinds _ (string_bytes text) found prints)
        ];
      }
  answers_ending words (endings.Mistake text) refused given option inputs ends =
      let tells : Mistaken (string_bytes text) = record { inputs = inputs; tells = ends } in record {
        job = λ passed. if_some (job_asked words) _ (λ parts is. absurd (mistake_differs text (not_given _ _ parts is (given passed))));
        option = λ passed. if_none (job_asked words) _ (λ none.
            let says : string_bytes text ≡ option_mistake (command_asked words) =
            wrong_option _ (endings.Mistake text) (option_mistake (command_asked words)) none (option passed) in
            inr (subst Mistaken says tells));
        refused = λ other. elim (refused other) [
          | inl out ↦ absurd (mistake_differs text out)
          | inr found ↦ inr (mistaken_kinds _ (string_bytes text) found tells)
        ];
      }

  -- ---- The same without reference to a parse.

  -- A job without an option.
  plain_job : (c : CommandName) (words : List (List ℕ)) → Words words
      → IfSome (file_for (name_text c) words) (λ file. Out ⊎ Of (task_named c, file))
  plain_job c words answers =
      if_some (file_for (name_text c) words) _ (λ file is.
      let meets = file_meets c words file is in
      subst (λ (of : Option (Task × List ℕ)). IfSome of (λ parts. Out ⊎ Of parts)) meets.asked (answers.job meets.no_fault))

  -- One kind of error, whose status is known.
  one_kind : (words : List (List ℕ)) (k : ErrorKind) → fault_of bench_app words ≡ k ∷ [] → Words words → Out ⊎ Refused (k ∷ [])
  one_kind words k is answers =
      subst (λ (kinds : Kinds). Out ⊎ Refused kinds) is (answers.refused (λ none. let bad : k ∷ [] ≡ [] = sym is ∙ none in cc))

  printed_kind : (k : ErrorKind) → kind_status k ≡ 0 → Out ⊎ Refused (k ∷ []) → Out ⊎ ((text : List ℕ) × Printed text)
  printed_kind k is (inl out) = inl out
  printed_kind k is (inr refused) = elim refused.among [
    | inl same ↦ inr (refused.text, refused.asked (ap kind_status same ∙ is))
    | inr none ↦ absurd none
  ]

  -- A kind of error that is neither help nor the version has status 2.
  mistake_kind : (k : ErrorKind) → (k ≡ kind.DisplayHelp → ⊥) × (k ≡ kind.DisplayVersion → ⊥) → kind_status k ≡ 2
  mistake_kind kind.DisplayHelp other = absurd (other.0 refl)
  mistake_kind kind.DisplayVersion other = absurd (other.1 refl)
  mistake_kind _ other = refl

  plain_mistake : (words : List (List ℕ)) → fault_of bench_app words ≢ []
      → ((k : ErrorKind) → IsAmong k (fault_of bench_app words) → (k ≡ kind.DisplayHelp → ⊥) × (k ≡ kind.DisplayVersion → ⊥))
      → Words words → Out ⊎ ((text : List ℕ) × Mistaken text)
  plain_mistake words some no_answers answers = elim (answers.refused some) [
    | inl out ↦ inl out
    | inr refused ↦ inr (refused.text, refused.mistaken (mistake_kind refused.kind (no_answers refused.kind refused.among)))
  ]

  pub answers_plainly : (words : List (List ℕ)) → Words words
      → AnswersPlainly opener source sink stderr opener_old opener_new file_old file_new input_old input_new
      old new stderr_old stderr_new status words
  answers_plainly words answers = record {
    run = plain_job run_name words answers;
    asm = plain_job asm_name words answers;
    dis = plain_job dis_name words answers;
    help = λ is. printed_kind kind.DisplayHelp refl (one_kind words kind.DisplayHelp (helps words is) answers);
    version = λ is. printed_kind kind.DisplayVersion refl (one_kind words kind.DisplayVersion (versions words is) answers);
    mistake = λ is.
        let wrong = mistakes words is in
        plain_mistake words wrong.some wrong.no_answers answers;
    twice = λ is.
        let wrong = twice_refused words is in
        plain_mistake words wrong.some wrong.no_answers answers;
    value = λ is.
        let wrong = wrong_value words is in
        subst (λ (of : Option (Task × List ℕ)). IfNone of (Out ⊎ Mistaken (option_mistake (command_asked words)))) wrong.no_job
        (answers.option wrong.no_fault);
  }
