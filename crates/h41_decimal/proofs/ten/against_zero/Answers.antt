use Rattle.std.proofs.Common.{arith}
use Rattle.std.specs.Prelude.{pos, ◌<ℤ◌}
use Rattle.std.proofs.lemmas.Int.{ints}
use Rattle.h41_decimal.specs.Units.{size}
use Rattle.h41_decimal.proofs.Tens.{order_apart, minus_below_plus, size_pos}
use Rattle.h41_decimal.proofs.ten.against_zero.Goals as goal

pub returns-in-Plus : goal.returns-in-Plus
returns-in-Plus c =
    let some = size_pos c.args.x in
    let less : pos 0 <ℤ pos (size c.args.x) = omega (arith, ints) in
    rw c.in-Plus.is (order_apart _ _ less).1

pub returns-in-Minus : goal.returns-in-Minus
returns-in-Minus c = rw c.in-Minus.is (order_apart _ _ (minus_below_plus (size c.args.x) 0 (size_pos c.args.x))).0
