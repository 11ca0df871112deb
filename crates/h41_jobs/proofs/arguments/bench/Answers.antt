use Rattle.std.proofs.Common.{ap, codes, ◌∙◌}
use Rattle.std.proofs.lemmas.Result.{IfOk-weaker}
use Rattle.clap.specs.Words.{App, with_subcommand}
use Rattle.h41_jobs.specs.BenchCommand.{origin_app, run_app}
use Rattle.h41_jobs.proofs.arguments.bench.Goals as goal

pub returns : goal.returns
returns c =
    let run = c.in_ok-with_run.ensures run_app c.run_command.ensures.app
    ∙ ap (λ (a : App). with_subcommand a run_app.top) c.empty_bench.ensures in
    let assemble = c.in_ok-with_assemble.ensures (origin_app (codes "asm")) c.assemble_command.ensures.app
    ∙ ap (λ (a : App). with_subcommand a (origin_app (codes "asm")).top) run in
    IfOk-weaker c.with_task-3.result _ _ (λ r h. h ∙ ap (λ (a : App). with_subcommand a (origin_app (codes "dis")).top) assemble)
    (c.with_task-3.ensures (origin_app (codes "dis")) c.list_command.ensures.app)
