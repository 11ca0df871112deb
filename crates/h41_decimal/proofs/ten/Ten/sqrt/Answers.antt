use Rattle.h41_decimal.proofs.Tens.{root_nearest, root_of_negative}
use Rattle.h41_decimal.proofs.ten.Ten.sqrt.Goals as goal

pub returns-in-Plus : goal.returns-in-Plus
returns-in-Plus c = rw (c.in-Nonzero.is, c.in-Plus.is) (root_nearest c.in-Nonzero.x _ c.root.ensures)

pub returns-in-Minus : goal.returns-in-Minus
returns-in-Minus c = rw (c.in-Nonzero.is, c.in-Minus.is) (root_of_negative c.in-Nonzero.x)
