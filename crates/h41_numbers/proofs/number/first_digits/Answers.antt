use Rattle.std.proofs.Common.{◌≤◌, ◌^◌, arith}
use Rattle.std.proofs.Math.Nat.{pow-le-pow_right}
use Rattle.h41_numbers.proofs.number.first_digits.Goals as goal

pub returns-clause-bound : goal.returns-clause-bound
returns-clause-bound c =
    let more : 10 ^ c.loop-character.digits.1.0 ≤ 10 ^ c.args.most = pow-le-pow_right (omega arith) c.loop-character.invariant.2 in
    omega (arith, more, c.loop-character.invariant.3)
