-- A line has exactly one end with all that it calls.
use Rattle.std.specs.Prelude.{ℕ, List}
use Rattle.h41_positions.specs.FocalState.{Machine}
use Rattle.h41_pages.specs.PageMap.{PageMap}
use Rattle.h41_focal.specs.OutsideCalls.{CarriesLine, IsNamed, LineSource}
use Rattle.h41_laws_words.specs.HasOne.{HasOne}

-- Any characters name exactly one function of the calculator, or none.
abbrev pub NameHasOneFunction : Type 0
NameHasOneFunction = (name : List ℕ) → HasOne (IsNamed name)

-- The line at the position, or a typed one, has exactly one end, whatever is plugged.
abbrev pub LineHasOneEnd : Type 0
LineHasOneEnd =
    (source : LineSource) (pages : PageMap) (machine : Machine)
    → HasOne (CarriesLine source pages machine)
