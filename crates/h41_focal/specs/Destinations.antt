-- The place at which execution continues after a line, by its row: at the next line, after it, at a
-- label, at a return address, or at line 00.
use Rattle.std.specs.Prelude.{◌≡◌, ◌⊎◌, ℕ, ◌-◌, Bool, List, [], ◌∷◌, ◌++◌, length, drop, reverse}
use Rattle.std.specs.Prelude.{MatchBool, Option, Some, None, Ok, Err}
use Rattle.std.specs.Option.{option_map}
use Rattle.h41_codes.specs.declared.functions.Branch.{Branch}
use Rattle.h41_codes.specs.declared.functions.Branch.TheVariants.{GoTo, Execute}
use Rattle.h41_pages.specs.PageMap.{PageMap}
use Rattle.h41_rows.specs.RowEffects.{holds_in}
use Rattle.h41_rows.specs.Rows as rows
use Rattle.h41_positions.specs.Positions.{LocalFrom, NextAt, StartOf}
use Rattle.h41_program.specs.ProgramLines.{AnswersOf}
use Rattle.h41_program.specs.Searches.{named_in, position_of}
use Rattle.h41_positions.specs.declared.position.Position.{Position}
use Rattle.h41_positions.specs.declared.position.Position.TheVariants.{Memory}
use Rattle.h41_program.specs.declared.refusal.ProgramRefusal.TheVariants.{BrokenProgram}
use Rattle.h41_ram.specs.RegisterMap.{RegisterMap}

-- The origin of a line: stepped, at the position, with the position of the next line; or typed.
pub data Manner : Type 0 where
  Stepped : Position → Manner
  Typed : Manner

-- The place at which execution continues after a line.
pub data Destination : Type 0 where
  -- at a position, with these return addresses, the newest last
  Arrives : Position → List Position → Destination
  -- at line 00 of the program that begins at a position, without return addresses; a program stops
  -- there
  Halts : Position → Destination
  -- a typed line leaves the position unchanged
  Stays : Destination
  -- the same, and the line is a test with this result
  Tells : Bool → Destination
  -- a typed line runs the program from a position on, without return addresses
  Runs : Position → Destination
  -- a function with this name is called, which is not in memory
  Seeks : List ℕ → Destination
  -- there is no such label
  HasNoLabel : Destination
  -- the line to be skipped cannot be read
  HasNoLine : Destination

-- The six newest return addresses are kept: a seventh replaces the oldest (this project's choice).
abbrev pub with_return : List Position → Position → List Position
with_return returns position = drop (length returns - 5) returns ++ position ∷ []

-- The line at a position is skipped. The .END. of memory is followed by itself. If no line can be
-- read there, the skipping line is refused (this project's choice).
abbrev pub Passes : PageMap → RegisterMap → Position → List Position → Destination → Type 0
Passes pages memory next returns to =
    ((position : Position) × NextAt pages memory next (Ok position)
    × (to ≡ Arrives position returns))
    ⊎ (NextAt pages memory next (Err BrokenProgram) × (to ≡ HasNoLine))

-- Execution continues at the next line if a condition is true, otherwise after it.
abbrev pub Asks : PageMap → Bool → RegisterMap → Position → List Position → Destination → Type 0
Asks pages holds memory next returns to =
    MatchBool holds (to ≡ Arrives next returns) (Passes pages memory next returns to)

-- Execution continues at a label if it was found. For XEQ the next line becomes the newest return
-- address.
abbrev pub found_at : Branch → Position → List Position → Destination → Option Position
    → Destination
found_at branch next returns lost None = lost
found_at GoTo next returns lost (Some position) = Arrives position returns
found_at Execute next returns lost (Some position) = Arrives position (with_return returns next)

-- If no label in memory has the name, XEQ searches for a function, and GTO is an error (this
-- project's choice).
abbrev pub lost_name : Branch → List ℕ → Destination
lost_name GoTo name = HasNoLabel
lost_name Execute name = Seeks name

-- Execution continues at the newest return address, or stops at line 00 of the position's program
-- if there is none.
abbrev pub GoesBack : PageMap → RegisterMap → Position → List Position → Destination → Type 0
GoesBack pages memory at [] to =
    (start : Position) × StartOf pages memory at start × (to ≡ Halts start)
GoesBack pages memory at (latest ∷ others) to = to ≡ Arrives latest (reverse others)

-- The place at which execution continues after a stepped line, given the position of the next line.
abbrev pub StepsFrom : PageMap → rows.Going → RegisterMap → ℕ → (at next : Position) → List Position
    → Destination → Type 0
StepsFrom pages rows.Next memory named at next returns to = to ≡ Arrives next returns
StepsFrom pages (rows.Tests condition) memory named at next returns to =
    Asks pages (holds_in memory named condition) memory next returns to
StepsFrom pages (rows.Counts condition) memory named at next returns to =
    Asks pages (holds_in memory named condition) memory next returns to
StepsFrom pages (rows.ToLabel branch label) memory named at next returns to =
    (found : Option Position)
    × LocalFrom label pages memory next found
    × (to ≡ found_at branch next returns HasNoLabel found)
StepsFrom pages (rows.ToName branch name) memory named at next returns to =
    (found : Option ℕ)
    × AnswersOf (λ lines. position_of (named_in name lines)) memory 0 found
    × (to ≡ found_at branch next returns (lost_name branch name) (option_map Memory found))
StepsFrom pages rows.Returns memory named at next returns to =
    GoesBack pages memory at (reverse returns) to

-- A typed line that branches to a label: GTO keeps the return addresses, XEQ runs the program.
abbrev pub typed_at : Branch → List Position → Destination → Option Position → Destination
typed_at branch returns lost None = lost
typed_at GoTo returns lost (Some position) = Arrives position returns
typed_at Execute returns lost (Some position) = Runs position

-- The place at which execution continues after a typed line. A test has a result, a loop does not
-- test, and local labels are searched from the position on.
abbrev pub TypedFrom : PageMap → rows.Going → RegisterMap → ℕ → Position → List Position
    → Destination
    → Type 0
TypedFrom pages rows.Next memory named at returns to = to ≡ Stays
TypedFrom pages (rows.Tests condition) memory named at returns to =
    to ≡ Tells (holds_in memory named condition)
TypedFrom pages (rows.Counts condition) memory named at returns to = to ≡ Stays
TypedFrom pages (rows.ToLabel branch label) memory named at returns to =
    (found : Option Position)
    × LocalFrom label pages memory at found
    × (to ≡ typed_at branch returns HasNoLabel found)
TypedFrom pages (rows.ToName branch name) memory named at returns to =
    (found : Option ℕ)
    × AnswersOf (λ lines. position_of (named_in name lines)) memory 0 found
    × (to ≡ typed_at branch returns (lost_name branch name) (option_map Memory found))
TypedFrom pages rows.Returns memory named at returns to =
    (start : Position) × StartOf pages memory at start × (to ≡ Halts start)

-- The place at which execution continues after a line.
abbrev pub Goes : PageMap → Manner → rows.Going → RegisterMap → ℕ → Position → List Position
    → Destination
    → Type 0
Goes pages (Stepped next) going memory named at returns to =
    StepsFrom pages going memory named at next returns to
Goes pages Typed going memory named at returns to = TypedFrom pages going memory named at returns to
