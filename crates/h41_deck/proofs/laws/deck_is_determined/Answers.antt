use Rattle.h41_deck.proofs.Determined.{all_determined}
use Rattle.h41_deck.proofs.laws.deck_is_determined.Goals as goal

pub returns : goal.returns
returns c =
    let all = all_determined c.steps_are_determined.ensures c.load_is_determined.ensures
    c.blocks_are_determined.ensures.filling c.blocks_are_determined.ensures.meaning
    c.lists_are_determined.ensures.lines c.presses_are_determined.ensures c.display_is_determined.ensures
    c.runs_are_determined.ensures c.traces_are_determined.ensures in
    record { text = all.0; ended = all.1; outcome = all.2; front = all.3 }
