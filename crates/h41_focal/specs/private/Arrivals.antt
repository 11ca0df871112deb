-- Definitions for the private functions that move to labels and return addresses.
use Rattle.std.specs.Prelude.{◌≡◌, Bool, ◌||◌, if◌then◌else◌, List, [], ◌∷◌, reverse}
use Rattle.h41_codes.specs.declared.functions.Branch.{Branch}
use Rattle.h41_codes.specs.declared.functions.Branch.TheVariants.{GoTo, Execute}
use Rattle.h41_focal.specs.Destinations.{with_return}
use Rattle.h41_positions.specs.FocalState.{FocalState, Machine, at_position, at_halt, at_line}
use Rattle.h41_positions.specs.FocalState.{with_returns}
use Rattle.h41_focal.specs.declared.origin.Origin.{Origin}
use Rattle.h41_focal.specs.declared.origin.Origin.TheVariants.{Program, Typed}
use Rattle.h41_focal.specs.declared.outcome.LineOutcome.{LineOutcome}
use Rattle.h41_focal.specs.declared.outcome.LineOutcome.TheVariants as outcomes
use Rattle.h41_pages.specs.PageMap.{PageMap}
use Rattle.h41_pages.specs.declared.functions.Entry.{Entry}
use Rattle.h41_positions.specs.Positions.{StartOf}
use Rattle.h41_positions.specs.declared.position.Position.{Position}
use Rattle.h41_positions.specs.declared.position.Position.TheVariants.{Page}

-- The position from which a local label is searched.
abbrev pub from_of : Origin → Position → Position
from_of (Program next) position = next
from_of Typed position = position

-- The state at a label that was found, which depends on the origin of the line and on the branch.
abbrev pub focal_at : Origin → Branch → Position → FocalState → FocalState
focal_at origin GoTo position focal = at_position position focal
focal_at (Program next) Execute position focal =
    record (at_position position focal) { returns = with_return focal.returns next }
focal_at Typed Execute position focal = record (at_position position focal) { returns = [] }

-- The outcome of a branch to a label that was found.
abbrev pub answer_at : Origin → Branch → LineOutcome
answer_at origin GoTo = outcomes.Done
answer_at (Program next) Execute = outcomes.Done
answer_at Typed Execute = outcomes.Runs

-- The state after a line that calls a function of a module, before this function is executed.
abbrev pub passed_state : Origin → (lifts : Bool) → FocalState → FocalState
passed_state (Program next) lifts focal =
    record (at_position next focal) { lift = lifts || focal.lift }
passed_state Typed lifts focal = focal

-- The state after a line that calls a module's function: a keystroke program is called, and a
-- function in microcode still has to be started.
abbrev pub state_in_entry : Origin → (lifts : Bool) → Entry → FocalState → FocalState
state_in_entry origin lifts entry focal =
    if entry.keystroke then
    focal_at origin Execute (Page entry.address) (passed_state origin lifts focal)
    else passed_state origin lifts focal

-- The outcome of such a call.
abbrev pub outcome_of_entry : Origin → Entry → LineOutcome
outcome_of_entry origin entry =
    if entry.keystroke then answer_at origin Execute else outcomes.Begins entry.address

-- The machine at the newest return address, or at line 00 if there is none. The return addresses
-- are given with the newest first.
abbrev pub GoesBackFrom : PageMap → List Position → (old new : Machine) → LineOutcome → Type 0
GoesBackFrom pages [] old new outcome =
    (start : Position) × StartOf pages old.memory old.focal.position start
    × (new ≡ at_halt start old) × (outcome ≡ outcomes.Stopped)
GoesBackFrom pages (latest ∷ others) old new outcome =
    (new ≡ at_line latest (with_returns (reverse others) old)) × (outcome ≡ outcomes.Done)

-- The machine at the newest return address, or at line 00 if there is none.
abbrev pub ReturnsFrom : PageMap → (old new : Machine) → LineOutcome → Type 0
ReturnsFrom pages old new outcome = GoesBackFrom pages (reverse old.focal.returns) old new outcome
