-- Runs of program lines: lines in turn, after each of which the program continues.
use Rattle.std.specs.Prelude.{◌≡◌, ℕ, zero, suc, ◌+◌, ◌≤◌, List, [], ◌∷◌, true, false, reverse}
use Rattle.std.specs.Prelude.{None, Ok}
use Rattle.h41_focal.specs.LineStep.{Left, StepsLine, left_done}
use Rattle.h41_focal.specs.Outcomes.{Done, Failed, Stopped}
use Rattle.h41_pages.specs.PageMap.{PageMap}
use Rattle.h41_positions.specs.FocalState.{Machine}
use Rattle.h41_positions.specs.declared.position.Position.{Position}
use Rattle.h41_rows.specs.declared.fault.LineFault.{LineFault}

-- The line at the position of s is executed. It leaves t, and the program continues there.
abbrev pub Continues : PageMap → Machine → Machine → Type 0
Continues pages s t = StepsLine pages s (Ok (left_done t))

-- A run of exactly this many lines leads from s to t.
abbrev pub Runs : PageMap → ℕ → Machine → Machine → Type 0
Runs pages zero s t = t ≡ s
Runs pages (suc count) s t =
    (next : Machine) × Continues pages s next × Runs pages count next t

-- A run of at most this many lines leads from s to a state with a property.
pub record WithinSteps (pages : PageMap) (most : ℕ) (s : Machine) (Property : Machine → Type 0)
    : Type 0 where
  pub count : ℕ
  pub bound : count ≤ most
  pub end : Machine
  pub run : Runs pages count s end
  pub property : Property end

-- After at most this many lines, the last of which may also stop the program, the state and the
-- answer of the last line have a property.
pub record Leaves (pages : PageMap) (most : ℕ) (s : Machine) (Property : Left → Type 0)
    : Type 0 where
  pub count : ℕ
  pub bound : count + 1 ≤ most
  pub before : Machine
  pub run : Runs pages count s before
  pub left : Left
  pub last : StepsLine pages before (Ok left)
  pub property : Property left

-- A program continues at its newest return address, and has one return address less.
abbrev pub ReturnsAt : Position → List Position → Left → Type 0
ReturnsAt latest others left =
    (left.answer ≡ Done)
    × (left.machine.focal.position ≡ latest)
    × (left.machine.focal.at_line_00 ≡ false)
    × (left.machine.focal.returns ≡ reverse others)

-- Without a return address, a program stops at line 00.
abbrev pub Stops : Left → Type 0
Stops left =
    (left.answer ≡ Stopped)
    × (left.machine.focal.at_line_00 ≡ true)
    × (left.machine.focal.returns ≡ [])

-- Where a program returns to, given its return addresses, the newest first.
abbrev pub ReturnsTo : List Position → Left → Type 0
ReturnsTo [] left = Stops left
ReturnsTo (latest ∷ others) left = ReturnsAt latest others left

-- The program that ran in s has returned to the line after the one that called it, or it has
-- stopped if none did.
abbrev pub HasReturned : Machine → Left → Type 0
HasReturned s left = ReturnsTo (reverse s.focal.returns) left

-- A line had an error, which the display shows, and the program has stopped at it.
abbrev pub HasFailed : LineFault → Left → Type 0
HasFailed fault left = left.answer ≡ Failed fault
