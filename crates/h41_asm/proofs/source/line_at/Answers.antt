use Rattle.std.proofs.lemmas.List.{take_rest}
use Rattle.h41_asm.proofs.LineAt.{last_line, line_ended}
use Rattle.h41_asm.proofs.source.line_at.Goals as goal

pub returns-in-Some-clause-line : goal.returns-in-Some-clause-line
returns-in-Some-clause-line c =
    let first = line_ended c.args.text.now c.args.start c.in-Some.end (rw take_rest at c.in-Some.ensures) in
    simp (take_rest, c.without_return.ensures) first

pub returns-in-None-clause-line : goal.returns-in-None-clause-line
returns-in-None-clause-line c =
    let last = last_line c.args.text.now c.args.start c.requires (rw take_rest at c.in-None.ensures) in
    rw take_rest last
