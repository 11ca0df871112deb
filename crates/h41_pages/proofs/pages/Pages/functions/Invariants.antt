use Rattle.std.proofs.Common.{◌≡◌, ◌++◌}
use Rattle.std.specs.List.{flat_map}
use Rattle.h41_pages.specs.FunctionTables.{functions, functions_at}
use Rattle.h41_pages.proofs.Ranges.{up_to}
use Rattle.h41_pages.proofs.pages.Pages.functions.Given as goal

-- The functions so far, and those of the pages that are left.
abbrev pub invariant-loop-page : goal.invariant-loop-page
invariant-loop-page l = functions l.self ≡ l.functions.items ++ flat_map (functions_at l.self) (up_to l.page 16)
