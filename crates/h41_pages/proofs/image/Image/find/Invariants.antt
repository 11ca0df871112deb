use Rattle.std.proofs.Common.{◌≡◌, map}
use Rattle.h41_pages.specs.FunctionTables.{found_in, function_in, functions_of, entry_count}
use Rattle.h41_pages.proofs.Ranges.{up_to}
use Rattle.h41_pages.proofs.image.Image.find.Given as goal

-- No entry so far has the name.
abbrev pub invariant-loop-entry : goal.invariant-loop-entry
invariant-loop-entry l =
    found_in l.name (functions_of l.self.words)
    ≡ found_in l.name (map (function_in l.self.words) (up_to l.entry (entry_count l.self.words)))
