use Rattle.std.proofs.Common.{arith, ◌∙◌}
use Rattle.h41_lines.proofs.Numerals.{hexadecimal_is, hexadecimal-lt}
use Rattle.h41_lines.proofs.numbers.hexadecimal.Goals as goal

pub returns-in_err-number_up_to-clause-value : goal.returns-in_err-number_up_to-clause-value
returns-in_err-number_up_to-clause-value c =
    c.from_residual.ensures ∙ c.in_err-number_up_to.ensures.value
    ∙ hexadecimal_is c.args.least c.args.most c.args.word.now _ _ (omega arith) (omega arith) (omega arith)

pub returns-clause-small : goal.returns-clause-small
returns-clause-small c =
    hexadecimal-lt c.args.least c.args.most _ c.args.word.now (c.in_ok-number_up_to.ensures.value
    ∙ hexadecimal_is c.args.least c.args.most c.args.word.now _ _ (omega arith) (omega arith) (omega arith))
