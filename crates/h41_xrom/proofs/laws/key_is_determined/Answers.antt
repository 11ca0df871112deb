use Rattle.h41_xrom.proofs.KeyLaws.{key_determined}
use Rattle.h41_xrom.proofs.laws.key_is_determined.Goals as goal

pub returns : goal.returns
returns c =
    key_determined c.line_is_determined.ensures.line c.line_is_determined.ensures.name
    c.searches_are_determined.ensures.global
    c.positions_are_read.ensures.read
    c.searches_are_determined.ensures.last
    c.moves_are_determined.ensures.next
    c.moves_are_determined.ensures.before
    c.moves_are_determined.ensures.end
    c.changes_are_determined.ensures.insertion
    c.changes_are_determined.ensures.replacement
    c.changes_are_determined.ensures.deletion
    c.values_are_determined.ensures
