use Rattle.std.proofs.Common.{◌≡◌, take}
use Rattle.h41_views.specs.PageViews.{functions_text}
use Rattle.h41_views.proofs.functions.functions_text.Given as goal

-- The lines of the functions so far.
abbrev pub invariant-loop-function : goal.invariant-loop-function
invariant-loop-function l = l.text.items ≡ functions_text (take l.function-index l.function-items)
