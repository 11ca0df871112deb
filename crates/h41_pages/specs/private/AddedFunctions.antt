-- What the functions that collect a list of functions promise to each other.
use Rattle.std.specs.Prelude.{◌≡◌, ◌++◌, ℕ, List}
use Rattle.h41_pages.specs.FunctionTables.{functions_of, functions_at}
use Rattle.h41_pages.specs.PageMap.{PageMap}
use Rattle.h41_pages.specs.declared.functions.ModuleFunction.{ModuleFunction}

-- The functions of an image were appended to a list.
abbrev pub AddsOf : List ℕ → List ModuleFunction → List ModuleFunction → Type 0
AddsOf words old new = new ≡ old ++ functions_of words

-- The functions of a page were appended to a list.
abbrev pub AddsAt : PageMap → ℕ → List ModuleFunction → List ModuleFunction → Type 0
AddsAt pages page old new = new ≡ old ++ functions_at pages page
