use Rattle.std.proofs.Common.{◌≡◌, ℕ, List, length, arith, ap}
use Rattle.std.proofs.lemmas.List.FromFn.{length-map-range_with_len}
use Rattle.h41_pages.specs.Addresses.{page_size}
use Rattle.h41_pages.specs.Images.{first_words, word_in_bytes, words_in}
use Rattle.h41_commands.proofs.blocks.image_bytes.ImageBytes.into_words.Goals as goal

words_count : (bytes : List ℕ) → length (words_in bytes) ≡ page_size
unfolding first_words
words_count bytes = length-map-range_with_len (word_in_bytes bytes) 0 page_size

pub returns-in-Ok-clause-bound : goal.returns-in-Ok-clause-bound
returns-in-Ok-clause-bound c = omega (arith, c.in-Ok.words.ok.0, ap length c.in-Ok.ensures.words, words_count c.deref.result.now)
