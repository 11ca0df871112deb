use Rattle.std.proofs.Common.{Err, refl}
use Rattle.h41_focal.specs.declared.refusal.FocalRefusal.TheVariants.{NotInProfile}
use Rattle.h41_focal.proofs.lines.named.Goals as goal

pub returns-in-GoToName-clause-taken : goal.returns-in-GoToName-clause-taken
returns-in-GoToName-clause-taken g c = rw c.in-GoToName.is (c.to_name.ensures.done 0)

pub returns-in-ExecuteName-clause-taken : goal.returns-in-ExecuteName-clause-taken
returns-in-ExecuteName-clause-taken g c = rw c.in-ExecuteName.is (c.to_name-in-ExecuteName.ensures.done 0)

pub returns-in-Wordless-clause-taken : goal.returns-in-Wordless-clause-taken
returns-in-Wordless-clause-taken g c = rw c.in-Wordless.is (Err NotInProfile, refl, refl)
