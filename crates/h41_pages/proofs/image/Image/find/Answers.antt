use Rattle.std.proofs.Common.{◌≡◌, ◌<◌, ◌+◌, ℕ, List, true, false, map, Some, rules}
use Rattle.h41_pages.specs.FunctionTables.{found_in, function_in, numbers_of, is_named, entry_count}
use Rattle.h41_pages.proofs.Ranges.{up_to, up_to-zero, map-step, map-none}
use Rattle.h41_pages.proofs.Searches.{found_later, found_first}
use Rattle.h41_pages.proofs.image.Image.find.Goals as goal
use Rattle.h41_pages.specs.declared.functions.ModuleFunction.{ModuleFunction}

-- The functions from an entry on.
abbrev rest_of : List ℕ → ℕ → List ModuleFunction
rest_of words entry = map (function_in words) (up_to entry (entry_count words))

later : (words name : List ℕ) (entry : ℕ) → entry < entry_count words → is_named name (function_in words entry) ≡ false
    → found_in name (rest_of words entry) ≡ found_in name (rest_of words (entry + 1))
later words name entry below fails = search (rules, map-step, found_later)

here : (words name : List ℕ) (entry : ℕ) → entry < entry_count words → is_named name (function_in words entry) ≡ true
    → found_in name (rest_of words entry) ≡ Some (numbers_of (function_in words entry))
here words name entry below passes = search (rules, map-step, found_first)

pub loop-entry-init : goal.loop-entry-init
loop-entry-init c = search (rules, up_to-zero)

pub loop-entry-preserved : goal.loop-entry-preserved
loop-entry-preserved c = search (rules, later)

pub returns-then-is_named-clause-found : goal.returns-then-is_named-clause-found
returns-then-is_named-clause-found c = search (rules, here)

pub returns-clause-found : goal.returns-clause-found
returns-clause-found c = search (rules, map-none)
