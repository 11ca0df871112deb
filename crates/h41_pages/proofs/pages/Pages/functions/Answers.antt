use Rattle.std.proofs.Common.{append_assoc, append-nil, rules}
use Rattle.h41_pages.proofs.Ranges.{pages_up_to, flat_map-step, flat_map-none}
use Rattle.h41_pages.proofs.pages.Pages.functions.Goals as goal

pub loop-page-init : goal.loop-page-init
loop-page-init c = search (rules, pages_up_to)

pub loop-page-preserved : goal.loop-page-preserved
loop-page-preserved c = search (rules, flat_map-step, append_assoc)

pub returns : goal.returns
returns c = search (rules, flat_map-none, append-nil)
