use Rattle.std.proofs.Common.{ap, ◌∙◌, List, [], ◌∷◌, ◌++◌, ℕ, take}
use Rattle.h41_decimal.specs.Holding.{after_nulls}
use Rattle.h41_ram.specs.RegisterMap.{digits_from}
use Rattle.h41_rows.specs.RowEffects.{text_register}
use Rattle.h41_rows.proofs.alpha.first_six.Goals as goal

pub returns : goal.returns
returns g c =
    c.holding_bytes.ensures
    ∙ ap (λ (bytes : List ℕ). digits_from bytes (0 ∷ 1 ∷ 2 ∷ 3 ∷ 4 ∷ 5 ∷ []) ++ 0 ∷ 1 ∷ []) c.first_at_right.ensures
    ∙ ap (λ (shown : List ℕ). text_register (take 6 shown)) (c.after_nulls.ensures.bytes ∙ ap after_nulls c.alpha-alpha.ensures)
