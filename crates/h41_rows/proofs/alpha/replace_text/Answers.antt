use Rattle.std.proofs.Common.{rules}
use Rattle.h41_rows.proofs.AlphaTexts.{over_nulls}
use Rattle.h41_rows.proofs.MarksLeft.{left_by_alpha}
use Rattle.h41_rows.proofs.alpha.replace_text.Goals as goal

pub returns-clause-change : goal.returns-clause-change
returns-clause-change g c named = search (rules, over_nulls)

pub returns-clause-left : goal.returns-clause-left
returns-clause-left g c = search (rules, left_by_alpha)
