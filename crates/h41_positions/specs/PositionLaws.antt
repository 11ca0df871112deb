-- Laws of positions, for each kind of position: what is found from a position is determined.
use Rattle.std.specs.Prelude.{◌≡◌, ℕ, Result, Ok, Err}
use Rattle.h41_pages.specs.PageMap.{PageMap}
use Rattle.h41_positions.specs.Positions.{LineAt, NextAt}
use Rattle.h41_positions.specs.declared.position.PlacedLine.{PlacedLine}
use Rattle.h41_positions.specs.declared.position.Position.{Position}
use Rattle.h41_program.specs.declared.refusal.ProgramRefusal.{ProgramRefusal}
use Rattle.h41_ram.specs.RegisterMap.{RegisterMap}

-- What is found from a position, in pages and memory.
abbrev pub Finding : Type 0 → Type 1
Finding A = PageMap → RegisterMap → Position → A → Type 0

-- A position has one answer of a kind.
abbrev pub HasOneAnswer : {A : Type 0} → Finding A → Type 0
HasOneAnswer {A} answers =
    (pages : PageMap) (memory : RegisterMap) (at : Position) (result other : A)
    → answers pages memory at result → answers pages memory at other → result ≡ other

-- A position has one answer of a kind for each number.
abbrev pub HasOneAnswerEach : {A : Type 0} → (ℕ → Finding A) → Type 0
HasOneAnswerEach answers = (n : ℕ) → HasOneAnswer (answers n)

-- Each position has one line or one refusal, and one next position.
pub record IsReadOnce : Type 0 where
  pub line : HasOneAnswer LineAt
  pub next : HasOneAnswer NextAt

-- Each position has a line or a refusal.
abbrev pub EachIsRead : Type 0
EachIsRead =
    (pages : PageMap) (memory : RegisterMap) (at : Position)
    → (answer : Result PlacedLine ProgramRefusal) × LineAt pages memory at answer

-- A position with a line has a next position.
abbrev pub LinesHaveNext : Type 0
LinesHaveNext =
    (pages : PageMap) (memory : RegisterMap) (at : Position) (first : PlacedLine)
    (refusal : ProgramRefusal)
    → LineAt pages memory at (Ok first) → NextAt pages memory at (Err refusal) → ⊥
