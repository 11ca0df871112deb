use Rattle.std.proofs.Common.{sym, ap, length, ◌==◌, ◌∙◌}
use Rattle.h41_lines.specs.Words.{words_of}
use Rattle.h41_commands.proofs.KeyWords.{all_named, lacks_keys}
use Rattle.h41_commands.proofs.commands.parse.key.Goals as goal

pub returns-then-is_empty-clause-command : goal.returns-then-is_empty-clause-command
returns-then-is_empty-clause-command c =
    let names = words_of c.args.operands.rest.now in
    let named =
    all_named names (words_of c.loop-name.name-iterator.rest.now) c.loop-name.keys c.loop-name.invariant.named c.in-None.ensures.steps.0 in
    sym (lacks_keys names c.loop-name.keys named
    (ap (λ keys. length keys == 0) (sym (c.as_slice.ensures ∙ c.pressed-pressed.ensures)) ∙ sym c.is_empty.ensures ∙ c.if-is_empty.true))
