use Rattle.std.proofs.Common.{◌≡◌, ◌++◌, take, drop, length}
use Rattle.std.specs.Option.{option_map}
use Rattle.h41_text.specs.private.TextParts.{characters_of}
use Rattle.h41_text.proofs.reader.number.Given as goal

abbrev pub invariant-loop-index : goal.invariant-loop-index
invariant-loop-index l = record {
  size : length l.characters ≡ 16;
  read : characters_of l.text ≡ option_map (λ more. take l.index l.characters ++ more) (characters_of (drop l.index l.text));
}
