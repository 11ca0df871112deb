use Rattle.std.proofs.Common.{◌≡◌, map, ◌++◌}
use Rattle.std.specs.List.{range_with_len}
use Rattle.h41_pages.specs.FunctionTables.{function_in}
use Rattle.h41_pages.proofs.image.Image.add_functions.Given as goal

-- The entries so far.
abbrev pub invariant-loop-entry : goal.invariant-loop-entry
invariant-loop-entry l =
    l.functions.items ≡ l.initial.functions.items ++ map (function_in l.self.words) (range_with_len 0 l.entry)
