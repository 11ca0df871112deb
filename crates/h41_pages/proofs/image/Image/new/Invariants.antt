use Rattle.std.proofs.Common.{◌≡◌, map, take}
use Rattle.h41_pages.specs.KeystrokeCode.{code_byte}
use Rattle.h41_pages.proofs.image.Image.new.Given as goal

-- The words so far, and their bytes.
abbrev pub invariant-loop-number : goal.invariant-loop-number
invariant-loop-number l = record {
  words : l.image.items ≡ take l.number-index l.words;
  code : l.code.items ≡ map code_byte l.image.items;
}
