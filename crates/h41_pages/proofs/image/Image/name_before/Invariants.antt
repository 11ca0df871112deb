use Rattle.std.proofs.Common.{◌≡◌, length, min, map}
use Rattle.h41_pages.specs.FunctionTables.{spelled_name, word_before, words_before}
use Rattle.h41_pages.proofs.Names.{going_on}
use Rattle.h41_pages.proofs.Ranges.{up_to}
use Rattle.h41_pages.proofs.image.Image.name_before.Given as goal

-- The characters so far, none of which is the last, and the remaining words.
abbrev pub invariant-loop-distance : goal.invariant-loop-distance
invariant-loop-distance l = record {
  length : length l.name ≡ l.distance;
  name : spelled_name (words_before l.self.words l.offset)
      ≡ going_on l.name (map (word_before l.self.words l.offset) (up_to l.distance (min l.offset 11)));
}
