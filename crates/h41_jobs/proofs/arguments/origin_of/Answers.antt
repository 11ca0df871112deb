use Rattle.std.proofs.Common.{ap, sym, option_map, ◌∙◌}
use Rattle.h41_jobs.specs.BenchCommand.{origin_asked}
use Rattle.h41_jobs.proofs.arguments.origin_of.Goals as goal

pub returns-in-Some : goal.returns-in-Some
returns-in-Some c = c.origin_value.ensures ∙ ap origin_asked (sym (ap (option_map (λ text. text.now)) c.in-Some.is) ∙ c.value_of.ensures)

pub returns-in-None : goal.returns-in-None
returns-in-None c = ap origin_asked (sym (ap (option_map (λ text. text.now)) c.in-None.is) ∙ c.value_of.ensures)
