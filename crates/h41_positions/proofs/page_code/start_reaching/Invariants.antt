use Rattle.h41_positions.proofs.PageStarts.{IsKept}
use Rattle.h41_positions.proofs.page_code.start_reaching.Given as goal

-- The least of the offsets so far that reach the given one.
abbrev pub invariant-loop-index : goal.invariant-loop-index
invariant-loop-index l = IsKept l.page.code.now l.begins l.at l.index l.least
