use Rattle.std.proofs.Common.{inl, inr, codes, map, List, ℕ}
use Rattle.clap.specs.declared.error.kind.ErrorKind.TheVariants as kind
use Rattle.h41_jobs.specs.declared.arguments.Task.TheVariants as tasks
use Rattle.h41_jobs.specs.CommandLine.{file_for, file_to_run}
use Rattle.h41_jobs.specs.Ending.{GivesJob}
use Rattle.clap.specs.Words.{fault_of}
use Rattle.h41_jobs.specs.BenchCommand.{bench_app, command_asked, job_asked}
use Rattle.h41_jobs.proofs.CommandWalks.{asm_name, dis_name, file_meets, run_name}
use Rattle.h41_jobs.proofs.CommandLemmas.{asked_of, failed_by, failed_memory, failed_refusal, gives_these, helps, if_none}
use Rattle.h41_jobs.proofs.CommandLemmas.{if_some, mistakes, not_taken, runs_file, runs_none, runs_out, versions}
use Rattle.h41_jobs.proofs.EndingLemmas.{ends_by_kind, ends_wrong, said_of, said_out}
use Rattle.h41_jobs.proofs.TwiceGiven.{twice_refused}
use Rattle.h41_jobs.proofs.WrongValues.{wrong_value}
use Rattle.h41_jobs.proofs.arguments.read_words.Goals as goal

pub returns-in-Ok : goal.returns-in-Ok
returns-in-Ok c =
    let words : List (List ℕ) = map (λ w. w.now) c.args.words.now in
    let gives : GivesJob (job_asked words) c.job_or_mistake.result =
    rw (asked_of words c.in-Ok.matches c.in-Ok.ensures.matches) at c.job_or_mistake.ensures.job in
    record {
      run = if_some (file_to_run words) _
          (λ file is. runs_file (job_asked words) c.job_or_mistake.result file (file_meets run_name words file is).asked gives);
      no_run = λ given.
          if_none (file_to_run words) _ (λ none. runs_none words c.job_or_mistake.result given none c.in-Ok.ensures.kinds gives);
      asm = if_some (file_for (codes "asm") words) _
          (λ file is. gives_these (job_asked words) c.job_or_mistake.result (tasks.Assemble 0x8000) file
          (file_meets asm_name words file is).asked gives);
      dis = if_some (file_for (codes "dis") words) _
          (λ file is. gives_these (job_asked words) c.job_or_mistake.result (tasks.List 0x8000) file
          (file_meets dis_name words file is).asked gives);
      help = λ is. absurd (not_taken kind.DisplayHelp words (helps words is) c.in-Ok.ensures.kinds);
      version = λ is. absurd (not_taken kind.DisplayVersion words (versions words is) c.in-Ok.ensures.kinds);
      mistake = λ is. absurd ((mistakes words is).some c.in-Ok.ensures.kinds);
      twice = λ is. absurd ((twice_refused words is).some c.in-Ok.ensures.kinds);
      value = λ is. ends_wrong (job_asked words) c.job_or_mistake.result (wrong_value words is).no_job gives;
      refused = λ other. absurd (other c.in-Ok.ensures.kinds);
      job = λ passed. rw (asked_of words c.in-Ok.matches c.in-Ok.ensures.matches) at c.job_or_mistake.ensures.job;
      option = λ passed. said_of words c.in-Ok.matches c.job_or_mistake.result c.in-Ok.ensures.matches c.job_or_mistake.ensures.option;
    }

pub returns-in-Err : goal.returns-in-Err
returns-in-Err c =
    let words : List (List ℕ) = map (λ w. w.now) c.args.words.now in
    record {
      run = if_some (file_to_run words) _
          (λ file is. c.make_ending.ensures.memory
          (failed_memory words c.in-Err.error c.in-Err.ensures.kinds (file_meets run_name words file is).no_fault));
      no_run = λ given. if_none (file_to_run words) _ (λ none. tt);
      asm = if_some (file_for (codes "asm") words) _
          (λ file is. c.make_ending.ensures.memory
          (failed_memory words c.in-Err.error c.in-Err.ensures.kinds (file_meets asm_name words file is).no_fault));
      dis = if_some (file_for (codes "dis") words) _
          (λ file is. c.make_ending.ensures.memory
          (failed_memory words c.in-Err.error c.in-Err.ensures.kinds (file_meets dis_name words file is).no_fault));
      help = λ is. elim (failed_by kind.DisplayHelp words c.in-Err.error c.in-Err.ensures.kinds (helps words is)) [
        | inl memory ↦ inr (c.make_ending.ensures.memory memory)
        | inr help ↦ c.make_ending.ensures.help help
      ];
      version = λ is. elim (failed_by kind.DisplayVersion words c.in-Err.error c.in-Err.ensures.kinds (versions words is)) [
        | inl memory ↦ inr (c.make_ending.ensures.memory memory)
        | inr version ↦ c.make_ending.ensures.version version
      ];
      mistake = λ is.
          let wrong = failed_refusal words c.in-Err.error c.in-Err.ensures.kinds (mistakes words is) in
          c.make_ending.ensures.mistake (record { no_help = wrong.0; no_version = wrong.1 });
      twice = λ is.
          let wrong = failed_refusal words c.in-Err.error c.in-Err.ensures.kinds (twice_refused words is) in
          c.make_ending.ensures.mistake (record { no_help = wrong.0; no_version = wrong.1 });
      value = λ is. inr (c.make_ending.ensures.memory
          (failed_memory words c.in-Err.error c.in-Err.ensures.kinds (wrong_value words is).no_fault));
      refused = λ other. ends_by_kind (fault_of bench_app words) c.in-Err.error c.make_ending.result c.in-Err.ensures.kinds
          c.make_ending.ensures.memory c.make_ending.ensures.help c.make_ending.ensures.version c.make_ending.ensures.mistake;
      job = λ passed. runs_out (job_asked words) c.make_ending.result
          (c.make_ending.ensures.memory (failed_memory words c.in-Err.error c.in-Err.ensures.kinds passed));
      option = λ passed. if_none (job_asked words) _
          (λ none. said_out (command_asked words) c.make_ending.result
          (c.make_ending.ensures.memory (failed_memory words c.in-Err.error c.in-Err.ensures.kinds passed)));
    }
