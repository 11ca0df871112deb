use Rattle.std.proofs.Common.{◌≡◌, ◌-◌, take, drop, length}
use Rattle.h41_digits.specs.Register.{text}
use Rattle.h41_digits.proofs.Digits.glyphs.Given as goal

-- The highest digits are written.
abbrev pub invariant-loop-i : goal.invariant-loop-i
invariant-loop-i g l = (take l.i l.glyphs ≡ text (drop (g.row.N - l.i) l.self)) × (length l.glyphs ≡ 14)
