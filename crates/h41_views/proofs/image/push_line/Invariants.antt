use Rattle.std.proofs.Common.{◌≡◌, ◌++◌, take}
use Rattle.h41_views.specs.PageViews.{bytes_text}
use Rattle.h41_views.proofs.image.push_line.Given as goal

-- The bytes so far.
abbrev pub invariant-loop-byte : goal.invariant-loop-byte
invariant-loop-byte l = l.text.items ≡ l.initial.text.items ++ bytes_text (take l.byte-index l.bytes)
