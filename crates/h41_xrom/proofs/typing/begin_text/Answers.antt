use Rattle.std.proofs.Common.{true, ap, ◌∙◌}
use Rattle.h41_ram.specs.NamedFlags.{alpha_entry}
use Rattle.h41_ram.specs.RegisterMap.{RegisterMap, with_flag}
use Rattle.h41_ram.specs.RamState.{RamState}
use Rattle.h41_xrom.proofs.typing.begin_text.Goals as goal

pub returns-clause-memory : goal.returns-clause-memory
returns-clause-memory g c = (ap (λ (ram : RamState). ram.registers) c.set_flag.ensures.written)
    ∙ ap (λ (of : RegisterMap). with_flag of alpha_entry true) (c.replace_text.ensures.change 0)
