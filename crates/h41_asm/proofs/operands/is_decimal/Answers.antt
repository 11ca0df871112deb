use Rattle.std.proofs.Common.{ap, sym, ◌∙◌}
use Rattle.std.specs.Str.{bytes_eq}
use Rattle.h41_asm.proofs.Decimals.{decimal_one, decimal_two}
use Rattle.h41_asm.proofs.operands.is_decimal.Goals as goal

pub returns-then-number-lt10 : goal.returns-then-number-lt10
returns-then-number-lt10 c =
    let d =
    decimal_one c.args.number c.if-number-lt10.true in
    c.eq.ensures ∙ ap (λ t. bytes_eq c.args.word.now t) (c.as_slice.ensures ∙ sym d)

pub returns-else-number-lt10 : goal.returns-else-number-lt10
returns-else-number-lt10 c =
    let d =
    decimal_two c.args.number c.if-number-lt10.false c.requires in
    c.eq-else-number-lt10.ensures ∙ ap (λ t. bytes_eq c.args.word.now t) (c.as_slice-else-number-lt10.ensures ∙ sym d)
