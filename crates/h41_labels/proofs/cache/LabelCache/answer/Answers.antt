use Rattle.std.proofs.Common.{subst, sym}
use Rattle.h41_labels.specs.KeptAnswers.{IsRight}
use Rattle.h41_labels.proofs.Right.{right_found, right_put}
use Rattle.h41_labels.proofs.cache.LabelCache.answer.Goals as goal

pub returns-in-Some-clause-found : goal.returns-in-Some-clause-found
returns-in-Some-clause-found g c right =
    right_found c.args.ram.now.registers c.args.search.now c.args.self.now c.in-Some.answer (sym c.in-Some.ensures.value) right

pub returns-in-None-clause-right : goal.returns-in-None-clause-right
returns-in-None-clause-right g c right =
    subst (λ kept. IsRight kept c.args.ram.now.registers) (sym c.keep.ensures)
    (right_put c.args.ram.now.registers c.args.search.now c.found-answer.result c.args.self.now right c.found-answer.ensures)
