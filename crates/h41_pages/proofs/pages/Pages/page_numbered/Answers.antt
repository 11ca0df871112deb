use Rattle.std.proofs.Common.{ap, sym, ◌∙◌, rules}
use Rattle.std.specs.List.{find}
use Rattle.h41_pages.proofs.Ranges.{pages_up_to, find-skips, find-takes, find-ends}
use Rattle.h41_pages.proofs.pages.Pages.page_numbered.Goals as goal

pub loop-page-init : goal.loop-page-init
loop-page-init c = ap (find _) pages_up_to

pub loop-page-preserved : goal.loop-page-preserved
loop-page-preserved c = search (rules, find-skips)

pub returns-then-is_numbered-clause-page : goal.returns-then-is_numbered-clause-page
returns-then-is_numbered-clause-page c = search (rules, find-takes)

pub returns-clause-page : goal.returns-clause-page
returns-clause-page c = sym (c.loop-page.invariant ∙ find-ends _ _ 16 c.loop-page-test.false)
