use Rattle.std.proofs.Common.{◌≡◌, codes, Some, None, ap, sym, option_map, ◌∙◌}
use Rattle.std.specs.Prelude.{option_and_then}
use Rattle.clap.specs.Words.{first_of, found_of, rows_of, subcommand_rows_of}
use Rattle.h41_jobs.specs.BenchCommand.{job_in, task_asked}
use Rattle.h41_jobs.specs.Ending.{parts_of}
use Rattle.h41_jobs.proofs.CommandLemmas.{met_row, named_rows}
use Rattle.h41_jobs.proofs.arguments.job_of.Goals as goal

pub returns : goal.returns
returns c =
    let command = found_of c.in_ok-name.command.now in
    let met : subcommand_rows_of c.args.matches.now ≡ Some (c.in_ok-name.name.now, rows_of command) =
    met_row (subcommand_rows_of c.args.matches.now) c.in_ok-name.name.now (rows_of command)
    (c.in_ok-name.ensures.name ∙ sym (named_rows c.args.matches.now)) c.in_ok-name.ensures.rows in
    let file : Some c.in_ok-file.file.now ≡ first_of (codes "FILE") (rows_of command) = c.in_ok-file.ensures in
    let task : Some c.in_ok-task.task
    ≡ task_asked c.in_ok-name.name.now (first_of (codes "memory") (rows_of command)) (first_of (codes "origin") (rows_of command)) =
    c.in_ok-task.ensures in
    (λ i. option_and_then (λ task. option_map (λ file. (task, file)) (file i)) (task i)) ∙ sym (ap job_in met)

pub returns-in_err-file : goal.returns-in_err-file
returns-in_err-file c =
    let command = found_of c.in_ok-name.command.now in
    let met : subcommand_rows_of c.args.matches.now ≡ Some (c.in_ok-name.name.now, rows_of command) =
    met_row (subcommand_rows_of c.args.matches.now) c.in_ok-name.name.now (rows_of command)
    (c.in_ok-name.ensures.name ∙ sym (named_rows c.args.matches.now)) c.in_ok-name.ensures.rows in
    let none : None ≡ first_of (codes "FILE") (rows_of command) =
    sym (ap (option_map (λ s. s.now)) c.in_err-file.was) ∙ c.value_of.ensures in
    let task : Some c.in_ok-task.task
    ≡ task_asked c.in_ok-name.name.now (first_of (codes "memory") (rows_of command)) (first_of (codes "origin") (rows_of command)) =
    c.in_ok-task.ensures in
    ap (option_map parts_of) c.from_residual-in_err-file.ensures
    ∙ (λ i. option_and_then (λ task. option_map (λ file. (task, file)) (none i)) (task i)) ∙ sym (ap job_in met)
