use Rattle.std.proofs.Common.{sym, ◌∙◌}
use Rattle.h41_views.proofs.ProgramWalks.{listed_more, lists_final, lists_none}
use Rattle.h41_views.proofs.program.program_text.Goals as goal

pub returns-then-is_last : goal.returns-then-is_last
returns-then-is_last g c =
    let sound = sym c.is_sound.ensures ∙ c.if-not-is_sound.false in
    let found = c.in-Some.found in
    lists_final c.args.ram.now.registers c.loop-found.listing.items _ c.loop-found.at
    found.behind found.listed sound c.loop-found.invariant c.in-Some.ensures.first
    (sym c.is_last.ensures ∙ c.if-is_last.true) (c.in_ok-push_line.ensures)

pub loop-found-preserved : goal.loop-found-preserved
loop-found-preserved g c =
    let found = c.in-Some.found in
    listed_more c.args.ram.now.registers c.loop-found.listing.items _ c.loop-found.at
    found.behind found.listed c.loop-found.invariant c.in-Some.ensures.first
    (sym c.is_last.ensures ∙ c.if-is_last.false) (c.in_ok-push_line.ensures)

pub returns : goal.returns
returns g c =
    let sound = sym c.is_sound.ensures ∙ c.if-not-is_sound.false in
    lists_none c.args.ram.now.registers c.loop-found.listing.items c.loop-found.at sound c.loop-found.invariant c.in_default.ensures.none
