-- What is said of runs with properties of states: parts in turn, and loops.
use Rattle.std.specs.Prelude.{ℕ, suc, ◌+◌, ◌*◌, ◌≤◌, ◌<◌, ◌⊎◌}
use Rattle.h41_nut.specs.WordStep.{Nut}
use Rattle.h41_reasoning.specs.Runs.{Reaches, Takes}

-- Where a run leads to, another one goes on.
abbrev pub PartsInTurn : Type 1
PartsInTurn =
    (first second : ℕ) (s : Nut) (Between After : Nut → Type 0) → Reaches first s Between
    → ((t : Nut) → Between t → Reaches second t After) → Reaches (first + second) s After

-- What is reached within some number of steps is reached within more.
abbrev pub MoreStepsSuffice : Type 1
MoreStepsSuffice =
    (most more : ℕ) (s : Nut) (After : Nut → Type 0) → most ≤ more → Reaches most s After
    → Reaches more s After

-- After a round of a loop: the loop has ended, or another round begins with a lower count.
abbrev pub AfterRound : (ℕ → Nut → Type 0) → (Nut → Type 0) → ℕ → Nut → Type 0
AfterRound Invariant After left t =
    After t ⊎ ((fewer : ℕ) × (fewer < left) × Invariant fewer t)

-- A loop ends. At the beginning of each round its invariant is true for a count, which each further
-- round lowers; so from a count there are at most that many further rounds.
abbrev pub LoopsEnd : Type 1
LoopsEnd =
    (Invariant : ℕ → Nut → Type 0) (After : Nut → Type 0) (most : ℕ)
    → ((left : ℕ) (s : Nut) → Invariant left s → Reaches most s (AfterRound Invariant After left))
    → (left : ℕ) (s : Nut) → Invariant left s → Reaches (most * (left + 1)) s After

-- The same of runs whose number of steps is exact.
abbrev pub TakesInTurn : Type 1
TakesInTurn =
    (first second : ℕ) (s : Nut) (Between After : Nut → Type 0) → Takes first s Between
    → ((t : Nut) → Between t → Takes second t After) → Takes (first + second) s After

-- A loop that counts down takes the same number of steps for each count, and another number after
-- the last.
abbrev pub CountsDown : Type 1
CountsDown =
    (Invariant : ℕ → Nut → Type 0) (After : Nut → Type 0) (round last : ℕ)
    → ((left : ℕ) (s : Nut) → Invariant (suc left) s → Takes round s (Invariant left))
    → ((s : Nut) → Invariant 0 s → Takes last s After)
    → (left : ℕ) (s : Nut) → Invariant left s → Takes (round * left + last) s After
