use Rattle.h41_decimal.proofs.Exact.{product_by_halves}
use Rattle.h41_decimal.proofs.sizes.product_cut.Goals as goal

pub returns-clause-product : goal.returns-clause-product
returns-clause-product c = product_by_halves c.args.x.mantissa.digits c.args.y.mantissa.digits
