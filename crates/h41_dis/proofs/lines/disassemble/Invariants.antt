use Rattle.std.proofs.Common.{◌≡◌, ◌++◌}
use Rattle.std.specs.String.{string_bytes}
use Rattle.h41_dis.specs.Spelling.{spell}
use Rattle.h41_dis.proofs.lines.disassemble.Given as goal

-- The text so far and the lines of the remaining words make up the result.
abbrev pub invariant-loop-piece : goal.invariant-loop-piece
invariant-loop-piece l = string_bytes l.text ++ spell l.piece-iterator.rest.now ≡ spell l.words
