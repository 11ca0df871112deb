use Rattle.std.proofs.Common.{◌≡◌, ◌++◌, take, drop}
use Rattle.std.specs.Option.{option_map}
use Rattle.h41_text.specs.private.TextParts.{parts_at_blank}
use Rattle.h41_text.proofs.reader.cut.Given as goal

abbrev pub invariant-loop-index : goal.invariant-loop-index
invariant-loop-index l = parts_at_blank l.text
    ≡ option_map (λ parts. (take l.index l.text ++ parts.0, parts.1)) (parts_at_blank (drop l.index l.text))
