use Rattle.h41_focal.proofs.alpha_lines.put_text.Goals as goal

pub returns-in-Some-clause-change : goal.returns-in-Some-clause-change
returns-in-Some-clause-change g c = λ named.
    let appends = c.appended.ensures.appends in
    rw (rw c.in-Some.is at appends) (c.append_text.ensures.change named)

pub returns-in-None-clause-change : goal.returns-in-None-clause-change
returns-in-None-clause-change g c = λ named.
    let replaces = c.appended.ensures.replaces in
    rw ((rw c.in-None.is at replaces) c.in_default.len_at_least) (c.replace_text.ensures.change named)
