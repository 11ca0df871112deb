use Rattle.h41_laws_decks.proofs.Meant.{one_meaning}
use Rattle.h41_laws_decks.proofs.laws.program_block_means_one.Goals as goal

pub returns : goal.returns
returns c = one_meaning c.canonical_is_shortest.ensures.once c.line_text_round_trip.ensures.one
