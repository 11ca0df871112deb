use Rattle.std.proofs.Common.{◌≡◌}
use Rattle.std.specs.List.{flat_map}
use Rattle.h41_pages.specs.FunctionTables.{function_of_name, found_in, functions_at}
use Rattle.h41_pages.proofs.Ranges.{up_to}
use Rattle.h41_pages.proofs.pages.Pages.find.Given as goal

-- No function so far has the name.
abbrev pub invariant-loop-page : goal.invariant-loop-page
invariant-loop-page l = function_of_name l.self l.name ≡ found_in l.name (flat_map (functions_at l.self) (up_to l.page 16))
