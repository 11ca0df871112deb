use Rattle.std.proofs.Common.{◌≡◌, ℕ, Bool, true, false, not, Option, Some, None, is_none, is_some, refl, ◌∙◌}
use Rattle.h41_commands.proofs.EndLines.{blank_line}
use Rattle.h41_commands.proofs.line.is_blank_line.Goals as goal

unfound : (found : Option ℕ) (none : Bool) → is_some found ≡ not none → none ≡ is_none found
unfound None true e = refl
unfound None false e = cc
unfound (Some at) true e = cc
unfound (Some at) false e = refl

pub returns : goal.returns
returns c =
    unfound c.word_start.result c.is_none.result c.is_none.ensures ∙ blank_line c.args.line.now c.word_start.result c.word_start.ensures
