use Rattle.std.proofs.Common.{ap, ap₂, ◌||◌, ◌∙◌}
use Rattle.std.proofs.lemmas.Result.{IfOk-weaker}
use Rattle.clap.specs.Words.{rule_of, with_rule}
use Rattle.h41_jobs.proofs.arguments.option_command.Goals as goal

pub returns-clause-app : goal.returns-clause-app
returns-clause-app c =
    let with_option =
    c.in_ok-arg.ensures.shape c.requires ∙ ap (λ app. with_rule app (rule_of c.args.option)) c.command_with_help.ensures.app in
    IfOk-weaker c.arg-2.result _ _
    (λ r h. h.shape c.file_argument.ensures.local ∙ ap₂ with_rule with_option c.file_argument.ensures.rule) c.arg-2.ensures

pub returns-clause-local : goal.returns-clause-local
returns-clause-local c =
    let with_option = c.in_ok-arg.ensures.globals ∙ ap₂ (λ a b. a || b) c.command_with_help.ensures.local c.requires in
    IfOk-weaker c.arg-2.result _ _ (λ r h. h.globals ∙ ap₂ (λ a b. a || b) with_option c.file_argument.ensures.local) c.arg-2.ensures
