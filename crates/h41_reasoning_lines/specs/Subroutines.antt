-- Calls of a subroutine by XEQ, as the theorem of a program that calls it needs them.
use Rattle.std.specs.Prelude.{◌≡◌, ℕ, ◌+◌, ◌≤◌, false, length}
use Rattle.h41_focal.specs.Destinations.{with_return}
use Rattle.h41_focal.specs.LineStep.{Left, left_done}
use Rattle.h41_pages.specs.PageMap.{PageMap}
use Rattle.h41_positions.specs.FocalState.{Machine}
use Rattle.h41_positions.specs.declared.position.Position.{Position}
use Rattle.h41_reasoning_lines.specs.LineRuns.{Continues, HasReturned, Leaves, WithinSteps}

-- A subroutine that was called in s has returned to the next line, and the state t has the property
-- that its theorem states. The return addresses are those that s had.
pub record IsBack (s : Machine) (next : Position) (Property : Left → Type 0)
    (t : Machine) : Type 0 where
  pub property : Property (left_done t)
  pub position : t.focal.position ≡ next
  pub no_line_00 : t.focal.at_line_00 ≡ false
  pub returns : t.focal.returns ≡ s.focal.returns

-- XEQ leads from s to the first line t of a subroutine, whose theorem states that it returns. Then
-- XEQ and the subroutine are one run to the line after XEQ. The calculator keeps six return
-- addresses, so that s may have at most five.
abbrev pub CallReturns : Type 1
CallReturns =
    (pages : PageMap) (most : ℕ) (s t : Machine) (next : Position) (Property : Left → Type 0)
    → Continues pages s t → t.focal.returns ≡ with_return s.focal.returns next
    → length s.focal.returns ≤ 5
    → ((left : Left) → Property left → HasReturned t left)
    → Leaves pages most t Property
    → WithinSteps pages (1 + most) s (IsBack s next Property)
