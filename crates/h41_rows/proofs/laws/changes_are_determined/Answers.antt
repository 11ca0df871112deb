use Rattle.std.proofs.Common.{sym, ◌∙◌, [], refl}
use Rattle.h41_rows.specs.Places.{Named}
use Rattle.h41_rows.proofs.laws.changes_are_determined.Goals as goal

pub returns-clause-taking : goal.returns-clause-taking
returns-clause-taking c = λ old new other register takes p q. p 0 ∙ sym (q 0)

pub returns-clause-moving : goal.returns-clause-moving
returns-clause-moving c = λ old new other takes p q. p [] 0 ∙ sym (q [] 0)

pub returns-clause-bringing : goal.returns-clause-bringing
returns-clause-bringing c = λ old new other address lift p q. p address Named [] refl ∙ sym (q address Named [] refl)

pub returns-clause-exchange : goal.returns-clause-exchange
returns-clause-exchange c = λ old new other address p q. p address Named [] refl ∙ sym (q address Named [] refl)

pub returns-clause-storing : goal.returns-clause-storing
returns-clause-storing c = λ old new other address p q. p address Named [] refl ∙ sym (q address Named [] refl)

pub returns-clause-alpha : goal.returns-clause-alpha
returns-clause-alpha c = λ old new other change p q. p 0 ∙ sym (q 0)
