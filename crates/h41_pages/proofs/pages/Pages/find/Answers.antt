use Rattle.std.proofs.Common.{◌≡◌, ◌+◌, ◌<◌, ℕ, List, None, Some, ap, rules}
use Rattle.std.specs.List.{flat_map}
use Rattle.h41_pages.specs.PageMap.{PageMap}
use Rattle.h41_pages.specs.FunctionTables.{found_in, functions_at}
use Rattle.h41_pages.proofs.Ranges.{up_to, pages_up_to, flat_map-step, flat_map-none}
use Rattle.h41_pages.proofs.Searches.{found_behind, found_before}
use Rattle.h41_pages.proofs.pages.Pages.find.Goals as goal
use Rattle.h41_pages.specs.declared.functions.ModuleFunction.{ModuleFunction}

-- The functions from a page on.
abbrev rest_of : PageMap → ℕ → List ModuleFunction
rest_of pages page = flat_map (functions_at pages) (up_to page 16)

later : (pages : PageMap) (name : List ℕ) (page : ℕ) → page < 16 → found_in name (functions_at pages page) ≡ None
    → found_in name (rest_of pages page) ≡ found_in name (rest_of pages (page + 1))
later pages name page below none = search (rules, flat_map-step, found_behind)

here : (pages : PageMap) (name : List ℕ) (numbers : ℕ × ℕ) (page : ℕ) → page < 16 → found_in name (functions_at pages page) ≡ Some numbers
    → found_in name (rest_of pages page) ≡ Some numbers
here pages name numbers page below some = search (rules, flat_map-step, found_before)

pub loop-page-init : goal.loop-page-init
loop-page-init c = ap (λ pages. found_in c.args.name.now (flat_map (functions_at c.args.self.now) pages)) pages_up_to

pub loop-page-preserved : goal.loop-page-preserved
loop-page-preserved c = search (rules, later)

pub returns-in-Some-clause-found : goal.returns-in-Some-clause-found
returns-in-Some-clause-found c = search (rules, here)

pub returns-clause-found : goal.returns-clause-found
returns-clause-found c = search (rules, flat_map-none)
