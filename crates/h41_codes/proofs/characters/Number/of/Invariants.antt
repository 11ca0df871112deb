use Rattle.std.proofs.Common.{◌≡◌}
use Rattle.h41_codes.specs.Counts.{number_most}
use Rattle.h41_codes.specs.declared.characters.Character.TheVariants.{Zero}
use Rattle.h41_codes.proofs.Filling.{filling}
use Rattle.h41_codes.proofs.characters.Number.of.Given as goal

abbrev pub invariant-loop-index : goal.invariant-loop-index
invariant-loop-index l = l.cells ≡ filling Zero number_most l.characters l.index
