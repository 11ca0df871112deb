-- What is found among the lines of a place, for each place that contains programs.
use Rattle.std.specs.Prelude.{◌≡◌, ℕ, List, Option, Some, None}
use Rattle.h41_program.specs.ProgramLines.{AnswersOf}
use Rattle.h41_program.specs.Searches.{label_in, position_of, start_in}
use Rattle.h41_program.specs.Sources.{ProgramFrom, Source}
use Rattle.h41_program.specs.declared.listed_line.ListedLine.{ListedLine}
use Rattle.h41_ram.specs.RegisterMap.{RegisterMap}

-- An answer is that of the lines from a position on, to the END or .END. of their program.
abbrev pub AnswersAll : {A : Type 0} → (List ListedLine → A) → Source → ℕ → A → Type 0
AnswersAll answer source at result =
    (lines : List ListedLine) → ProgramFrom source at lines → result ≡ answer lines

-- The answer for the program of a position is that for the lines from the program's start to its
-- END or .END. `StartsAt` says where the program of a position starts.
pub record AnswersProgram {A : Type 0} (answer : List ListedLine → A)
    (source : Source) (StartsAt : ℕ → ℕ → Type 0) (at : ℕ) (result : A) : Type 0 where
  pub start : ℕ
  pub own : List ListedLine
  pub starts : StartsAt at start
  pub program : ProgramFrom source start own
  pub is : result ≡ answer own

-- The position of LBL n among these lines.
abbrev pub label_position : ℕ → List ListedLine → Option ℕ
label_position n lines = position_of (label_in n lines)

-- The first answer, or the second one if the first is none.
abbrev pub Otherwise : Option ℕ → (Option ℕ → Type 0) → Option ℕ → Type 0
Otherwise (Some position) second result = result ≡ Some position
Otherwise None second result = second result

-- The position of LBL n for a search from a position: the first one from there to the end of the
-- program, otherwise the first one of the program.
abbrev pub AnswersLabel : ℕ → Source → (ℕ → ℕ → Type 0) → ℕ → Option ℕ → Type 0
AnswersLabel n source StartsAt at result =
    (onward : List ListedLine)
    × ProgramFrom source at onward
    × Otherwise (label_position n onward) (AnswersProgram (label_position n) source StartsAt at)
    result

-- A program of memory starts after the last END before a position.
abbrev pub MemoryStarts : RegisterMap → ℕ → ℕ → Type 0
MemoryStarts memory at start = AnswersOf (start_in at) memory 0 start
