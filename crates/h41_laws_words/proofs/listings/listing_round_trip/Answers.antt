use Rattle.h41_laws_words.proofs.ListingSource.{listing_assembles}
use Rattle.h41_laws_words.proofs.listings.listing_round_trip.Goals as goal

pub returns : goal.returns
returns c = listing_assembles c.word_table_round_trip.ensures.word c.word_table_round_trip.ensures.row c.second_word_round_trip.ensures.word
