use Rattle.std.proofs.Common.{ℕ, List, take, ap, ◌∙◌}
use Rattle.h41_xrom.specs.KeyActions.{with_text}
use Rattle.h41_xrom.proofs.typing.take_letter.Goals as goal

pub returns-clause-memory : goal.returns-clause-memory
returns-clause-memory g c =
    c.replace_text.ensures.change 0 ∙ ap (λ (text : List ℕ). with_text c.args.ram.now.registers (take 23 text)) c.alpha-alpha.ensures
