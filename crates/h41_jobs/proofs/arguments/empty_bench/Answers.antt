use Rattle.std.proofs.Common.{ap, true, ◌∙◌}
use Rattle.clap.specs.Words.{App}
use Rattle.clap.specs.Simple.{app_of_fields}
use Rattle.h41_jobs.proofs.arguments.empty_bench.Goals as goal

pub returns : goal.returns
returns c =
    ap app_of_fields c.subcommand_required.ensures
    ∙ ap (λ (a : App). record a { top = record a.top { subcommand_required = true } })
    (ap app_of_fields c.version.ensures
    ∙ ap (λ (a : App). record a { top = record a.top { has_version = true } }) c.command_with_help.ensures.app)
