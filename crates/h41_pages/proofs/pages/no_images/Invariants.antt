use Rattle.std.proofs.Common.{◌≡◌, replicate}
use Rattle.h41_pages.specs.PageMap.{no_banks}
use Rattle.h41_pages.proofs.pages.no_images.Given as goal

-- The pages so far, with nothing plugged.
abbrev pub invariant-loop-page : goal.invariant-loop-page
invariant-loop-page l = l.images.items ≡ replicate l._page no_banks
