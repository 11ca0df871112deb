use Rattle.std.proofs.Common.{ℕ, Option, subst, rules}
use Rattle.h41_walk.specs.Searches.{AnswersAll, label_position}
use Rattle.h41_walk.proofs.Answering.{label_onward, label_own}
use Rattle.h41_walk.proofs.programs.local.Goals as goal

pub returns-in-Some : goal.returns-in-Some
returns-in-Some g c = search (rules, label_onward)

pub returns-in-None : goal.returns-in-None
returns-in-None g c =
    let source = g.P.Code.source c.args.code.now in
    label_own c.each_is_listed.ensures.lines source (g.P.Programs.starts c.args.code.now) c.args.at c.args.label c.start_of.result
    c.label_from-in-None.result
    (subst (λ (found : Option ℕ). AnswersAll (label_position c.args.label) source c.args.at found) c.in-None.is c.label_from.ensures)
    c.start_of.ensures c.label_from-in-None.ensures
