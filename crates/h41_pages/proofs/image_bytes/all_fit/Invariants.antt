use Rattle.std.proofs.Common.{◌≡◌, map}
use Rattle.std.specs.List.{list_all}
use Rattle.h41_pages.specs.Addresses.{page_size}
use Rattle.h41_pages.specs.Images.{all_fit, is_word, word_in_bytes}
use Rattle.h41_pages.proofs.Ranges.{up_to}
use Rattle.h41_pages.proofs.image_bytes.all_fit.Given as goal

-- The words so far fit.
abbrev pub invariant-loop-offset : goal.invariant-loop-offset
invariant-loop-offset l = all_fit l.bytes ≡ list_all is_word (map (word_in_bytes l.bytes) (up_to l.offset page_size))
