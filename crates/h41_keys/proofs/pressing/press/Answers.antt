use Rattle.std.proofs.Common.{sym, ◌∙◌}
use Rattle.h41_keys.proofs.Storing.{accepted_stores}
use Rattle.h41_keys.proofs.pressing.press.Goals as goal

pub returns-in-Some-clause-stored : goal.returns-in-Some-clause-stored
returns-in-Some-clause-stored c =
    accepted_stores c.args.input.now c.args.key c.args.mode c.args.flags c.in-Some.pressed.action c.in-Some.pressed.input
    (sym c.pressed.ensures ∙ c.in-Some.is)
