use Rattle.std.proofs.Common.{arith}
use Rattle.std.proofs.lemmas.Grind.{common_steps}
use Rattle.h41_dis.proofs.Decimals.{decimal_one, decimal_two}
use Rattle.h41_dis.proofs.text.push_decimal.Goals as goal
use Rattle.h41_dis.proofs.text.push_decimal.Goals.{then-number-ge10, else-number-ge10}

pub returns-clause-text : goal.returns-clause-text
returns-clause-text g c =
    elim c.if-number-ge10.branch [
      | then-number-ge10 w ↦ let e = decimal_two c.args.number w.if-number-ge10.true c.requires.small in grind (arith, common_steps, e)
      | else-number-ge10 w ↦ let e = decimal_one c.args.number w.if-number-ge10.false in grind (arith, common_steps, e)
    ]
