use Rattle.std.proofs.Common.{refl, arith}
use Rattle.std.specs.String.{string_bytes}
use Rattle.h41_dis.specs.Spelling.{pieces}
use Rattle.h41_dis.proofs.Columns.{next_line}
use Rattle.h41_dis.proofs.lines.listing.Goals as goal

pub loop-piece-preserved : goal.loop-piece-preserved
loop-piece-preserved c =
    next_line (string_bytes c.loop-piece.text) _ _ _ c.loop-piece.address c.length-address.result c.in-Some.piece
    (pieces c.loop-piece.piece-iterator.rest.now) (pieces c.next.new.self.rest.now) (omega arith)
    c.in-Some.ensures.steps c.loop-piece.invariant refl c.in_ok-push_columns_line.ensures c.length-address.ensures
