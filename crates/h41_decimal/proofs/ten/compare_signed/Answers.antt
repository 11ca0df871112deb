use Rattle.h41_decimal.specs.Units.{size}
use Rattle.h41_decimal.proofs.Tens.{order_apart, minus_below_plus, size_pos}
use Rattle.h41_decimal.proofs.ten.compare_signed.Goals as goal

pub returns-in-Plus-Minus : goal.returns-in-Plus-Minus
returns-in-Plus-Minus c =
    rw (c.in-Plus-Minus.is-0, c.in-Plus-Minus.is-1)
    (order_apart _ _ (minus_below_plus (size c.args.y) (size c.args.x) (size_pos c.args.y))).1

pub returns-in-Minus-Plus : goal.returns-in-Minus-Plus
returns-in-Minus-Plus c =
    rw (c.in-Minus-Plus.is-0, c.in-Minus-Plus.is-1)
    (order_apart _ _ (minus_below_plus (size c.args.x) (size c.args.y) (size_pos c.args.x))).0
