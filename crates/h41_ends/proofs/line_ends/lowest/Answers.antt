use Rattle.std.proofs.Common.{arith, w64}
use Rattle.std.proofs.lemmas.Nat.Bits.{bit_at-trailing_zeros}
use Rattle.h41_ends.proofs.line_ends.lowest.Goals as goal

pub returns : goal.returns
returns c =
    let found = bit_at-trailing_zeros w64 c.args.bits (omega (arith, c.requires)) c.ranges.bits.fits in
    record { bound = found.0; set = found.1; below = found.2 }
