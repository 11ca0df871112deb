use Rattle.std.proofs.Common.{◌++◌, ap, ◌∙◌}
use Rattle.h41_decimal.specs.Holding.{after_nulls}
use Rattle.h41_lines.specs.Characters.{characters_text}
use Rattle.h41_show.specs.RegisterText.{alpha_text}
use Rattle.h41_show.proofs.register.alpha_text.Goals as goal

pub returns : goal.returns
unfolding alpha_text
returns g c =
    c.push_characters.ensures ∙ ap (λ t. t ++ characters_text c.after_nulls.result.now) c.new-text.ensures
    ∙ ap characters_text (c.after_nulls.ensures.bytes ∙ ap after_nulls c.alpha.ensures)
