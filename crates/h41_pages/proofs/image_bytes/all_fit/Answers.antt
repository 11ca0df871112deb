use Rattle.std.proofs.Common.{◌≡◌, ◌+◌, ◌<◌, ℕ, List, ◌&&◌, map, ap, rules}
use Rattle.std.specs.List.{list_all}
use Rattle.std.proofs.lemmas.Grind.{common_steps}
use Rattle.h41_pages.specs.Addresses.{page_size}
use Rattle.h41_pages.specs.Images.{is_word, word_in_bytes}
use Rattle.h41_pages.proofs.ImageWords.{first_words_made}
use Rattle.h41_pages.proofs.Ranges.{up_to, map-step, map-none}
use Rattle.h41_pages.proofs.image_bytes.all_fit.Goals as goal

pub loop-offset-init : goal.loop-offset-init
loop-offset-init c = ap (list_all is_word) (first_words_made c.args.bytes.now page_size)

-- Whether the remaining words fit, depending on the first of them.
pub fits-step : (bytes : List ℕ) (offset : ℕ) → offset < page_size
    → list_all is_word (map (word_in_bytes bytes) (up_to offset page_size)) ≡ is_word (word_in_bytes bytes offset)
    && list_all is_word (map (word_in_bytes bytes) (up_to (offset + 1) page_size))
fits-step bytes offset below = ap (list_all is_word) (map-step (word_in_bytes bytes) offset page_size below)

pub returns-then-word_from-gt1023 : goal.returns-then-word_from-gt1023
returns-then-word_from-gt1023 c = search (rules, common_steps, fits-step)

pub loop-offset-preserved : goal.loop-offset-preserved
loop-offset-preserved c = search (rules, common_steps, fits-step)

pub returns : goal.returns
returns c = search (rules, map-none)
