use Rattle.std.proofs.Common.{ap, ◌∙◌, List, ℕ, drop}
use Rattle.h41_decimal.specs.Holding.{after_nulls}
use Rattle.h41_ram.specs.RegisterMap.{with_alpha}
use Rattle.h41_rows.specs.RowEffects.{last_24}
use Rattle.h41_rows.proofs.AlphaTexts.{past_six}
use Rattle.h41_rows.proofs.alpha.shift_six.Goals as goal

pub returns-clause-change : goal.returns-clause-change
returns-clause-change g c named =
    c.replace_text.ensures.change named
    ∙ ap (λ (text : List ℕ). with_alpha c.args.ram.now.registers (last_24 text))
    (past_six c.after_nulls-shown.result.now c.min.result c.min.ensures
    ∙ ap (drop 6) (c.after_nulls-shown.ensures.bytes ∙ ap after_nulls c.alpha-alpha.ensures))
