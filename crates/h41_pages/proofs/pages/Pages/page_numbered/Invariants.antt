use Rattle.std.proofs.Common.{◌≡◌}
use Rattle.std.specs.List.{find}
use Rattle.h41_pages.specs.FunctionTables.{page_numbered, is_numbered, first_image}
use Rattle.h41_pages.proofs.Ranges.{up_to}
use Rattle.h41_pages.proofs.pages.Pages.page_numbered.Given as goal

-- No page so far has the number.
abbrev pub invariant-loop-page : goal.invariant-loop-page
invariant-loop-page l =
    page_numbered l.self l.number ≡ find (λ page. is_numbered l.number (first_image l.self page)) (up_to l.page 16)
