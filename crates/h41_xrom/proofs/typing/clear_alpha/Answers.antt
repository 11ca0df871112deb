use Rattle.h41_xrom.proofs.typing.clear_alpha.Goals as goal

pub returns-clause-memory : goal.returns-clause-memory
returns-clause-memory g c = c.replace_text.ensures.change 0
