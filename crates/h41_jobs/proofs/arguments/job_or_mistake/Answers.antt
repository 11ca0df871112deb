use Rattle.std.proofs.Common.{sym, ◌∙◌}
use Rattle.clap.specs.Words.{subcommand_rows_of}
use Rattle.h41_jobs.specs.BenchCommand.{job_in}
use Rattle.h41_jobs.proofs.CommandLemmas.{if_none, named_rows}
use Rattle.h41_jobs.proofs.arguments.job_or_mistake.Goals as goal

pub returns-in-None-clause-option : goal.returns-in-None-clause-option
returns-in-None-clause-option c =
    let named = c.subcommand_name.ensures ∙ sym (named_rows c.args.matches.now) in
    let said = rw named at c.wrong_option.ensures.text in
    if_none (job_in (subcommand_rows_of c.args.matches.now)) _ (λ none. said)
