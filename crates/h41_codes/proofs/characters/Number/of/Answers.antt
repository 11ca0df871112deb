use Rattle.std.proofs.Common.{List, set, get_or, ap, ◌∙◌, arith}
use Rattle.h41_codes.specs.Counts.{number_most}
use Rattle.h41_codes.specs.declared.characters.Character.{Character as Sign}
use Rattle.h41_codes.specs.declared.characters.Character.TheVariants.{Zero}
use Rattle.h41_codes.proofs.Filling.{fill_next}
use Rattle.h41_codes.proofs.characters.Number.of.Goals as goal

pub loop-index-preserved : goal.loop-index-preserved
loop-index-preserved c =
    let items = c.args.characters.now in
    let index = c.loop-index.index in
    ap (λ (cells : List Sign). set cells index (get_or items index Zero)) c.loop-index.invariant
    ∙ fill_next Zero Zero number_most items index (omega arith) c.requires.high
