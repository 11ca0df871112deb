use Rattle.std.proofs.Common.{arith}
use Rattle.std.proofs.lemmas.Nat.{one_shl}
use Rattle.h41_digits.proofs.Packed.{put_in}
use Rattle.h41_digits.proofs.with_bits.Goals as goal

pub returns : goal.returns
returns c =
    rw (one_shl c.args.width 64 (omega arith))
    (put_in c.args.word c.args.at c.args.width c.args.bits c.ranges.word.fits c.requires.in_word c.requires.fits)
