use Rattle.std.proofs.Common.{◌≡◌, Some, refl, sym, ◌∙◌, ap}
use Rattle.h41_program.specs.Edits.{front_behind}
use Rattle.h41_program.specs.private.EditSteps.{listed_of}
use Rattle.h41_program.specs.declared.editing.InFront.TheVariants.{Line as LineHere}
use Rattle.h41_program.proofs.EditPlaces
use Rattle.h41_program.proofs.editing.in_front.Goals as goal

pub returns-in-Some-2 : goal.returns-in-Some-2
returns-in-Some-2 g c lines from =
    let stays : LineHere c.in-Some.found.listed.position ≡ front_behind c.in-Some.found.listed =
    rw (sym c.is_end.ensures ∙ c.if-is_end.false) refl in
    stays
    ∙ EditPlaces.in_front c.args.count lines (Some c.in-Some.found.listed) c.if-count-eq0.false
    (sym (ap listed_of c.in-Some.is) ∙ c.line_behind.ensures.line lines from)
