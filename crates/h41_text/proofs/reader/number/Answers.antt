use Rattle.std.proofs.Common.{◌≡◌, None, sym, ◌∙◌}
use Rattle.h41_text.specs.private.TextParts.{characters_of}
use Rattle.h41_text.proofs.Finding.{characters_none, number_none}
use Rattle.h41_text.proofs.reader.number.Goals as goal

pub returns-in_err-characters-clause-line : goal.returns-in_err-characters-clause-line
returns-in_err-characters-clause-line c =
    let text = c.args.text.now in
    let rest = characters_none text c.loop-index.index c.loop-index-test.true (sym c.in_err-characters.ensures) in
    let none : characters_of text ≡ None = rw rest at c.loop-index.invariant.read in
    c.from_residual.ensures ∙ sym (number_none text none)
