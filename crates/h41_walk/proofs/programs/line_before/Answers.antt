use Rattle.std.proofs.Common.{None, sym, ap, ◌∙◌}
use Rattle.h41_program.specs.Numbering.{before_in, before_number}
use Rattle.h41_walk.proofs.Answering.{of_program}
use Rattle.h41_walk.proofs.programs.line_before.Goals as goal

pub returns-in-Some : goal.returns-in-Some
returns-in-Some g c =
    of_program c.each_is_listed.ensures.lines (g.P.Code.source c.args.code.now) (g.P.Programs.starts c.args.code.now) c.args.position
    (before_in c.args.position) c.start_of-start.result c.numbered_from.result c.start_of-start.ensures
    (λ lines from.
    c.numbered_from.ensures lines from ∙ ap (before_number lines) (sym c.in-Some.is ∙ c.number_from.ensures.is lines from))

pub returns-in-None : goal.returns-in-None
returns-in-None g c =
    of_program c.each_is_listed.ensures.lines (g.P.Code.source c.args.code.now) (g.P.Programs.starts c.args.code.now) c.args.position
    (before_in c.args.position) c.start_of-start.result None c.start_of-start.ensures
    (λ lines from. ap (before_number lines) (sym c.in-None.is ∙ c.number_from.ensures.is lines from))
