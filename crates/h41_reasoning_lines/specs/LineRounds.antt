-- What is said of runs of lines with properties of states: parts in turn, and loops.
use Rattle.std.specs.Prelude.{ℕ, ◌+◌, ◌*◌, ◌<◌, ◌⊎◌}
use Rattle.h41_focal.specs.LineStep.{Left}
use Rattle.h41_pages.specs.PageMap.{PageMap}
use Rattle.h41_positions.specs.FocalState.{Machine}
use Rattle.h41_reasoning_lines.specs.LineRuns.{Runs, WithinSteps, Leaves}

-- Two runs, of which the second begins at the end of the first, are one run.
abbrev pub LineRunsJoin : Type 0
LineRunsJoin =
    (pages : PageMap) (first second : ℕ) (s t u : Machine) → Runs pages first s t
    → Runs pages second t u
    → Runs pages (first + second) s u

-- After a round of a loop: the loop has ended, or another round begins with a lower count.
abbrev pub AfterRound : (ℕ → Machine → Type 0) → (Machine → Type 0) → ℕ → Machine → Type 0
AfterRound Invariant After left t =
    After t ⊎ ((fewer : ℕ) × (fewer < left) × Invariant fewer t)

-- A loop ends. At the beginning of each round its invariant is true for a count, which each further
-- round lowers; so from a count there are at most that many further rounds.
abbrev pub LoopsEnd : Type 1
LoopsEnd =
    (pages : PageMap) (Invariant : ℕ → Machine → Type 0) (After : Machine → Type 0) (most : ℕ)
    → ((left : ℕ) (s : Machine) → Invariant left s
    → WithinSteps pages most s (AfterRound Invariant After left))
    → (left : ℕ) (s : Machine) → Invariant left s
    → WithinSteps pages (most * (left + 1)) s After

-- A run leads to a state from which the program returns.
abbrev pub LeavesInTurn : Type 1
LeavesInTurn =
    (pages : PageMap) (first second : ℕ) (s : Machine) (Between : Machine → Type 0)
    (After : Left → Type 0)
    → WithinSteps pages first s Between
    → ((t : Machine) → Between t → Leaves pages second t After)
    → Leaves pages (first + second) s After
