use Rattle.std.proofs.Common.{◌+◌, ◌-◌, ◌++◌, sym, ap, ◌∙◌, append_assoc, arith}
use Rattle.std.proofs.lemmas.Grind.{common_steps}
use Rattle.h41_text.proofs.Unquoting.{unquoted_more}
use Rattle.h41_text.proofs.reader.push_unquoted.Goals as goal

pub loop-preserved : goal.loop-preserved
loop-preserved c =
    let more =
    unquoted_more (15 - c.loop.counter) (15 - (c.loop.counter + 1)) c.loop.rest.now
    c.in-Some.character c.in-Some.more.now (omega arith) c.in-Some.ensures.first in
    record {
      size = grind (arith, common_steps);
      read = rw (c.push.ensures.items, append_assoc) (ap (λ xs. c.loop.characters.items ++ xs) (sym more) ∙ c.loop.invariant.read);
    }
