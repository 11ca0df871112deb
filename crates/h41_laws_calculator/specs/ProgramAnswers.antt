-- Lists of lines exist, and so does what is found in them.
use Rattle.std.specs.Prelude.{ℕ, List, Bool}
use Rattle.h41_codes.specs.declared.line.Line.{Line}
use Rattle.h41_ram.specs.RegisterMap.{RegisterMap}
use Rattle.h41_program.specs.FirstLines.{ReadsTo}
use Rattle.h41_program.specs.ProgramLines.{AnswersOf}
use Rattle.h41_program.specs.Searches.{AnswersProgram}
use Rattle.h41_program.specs.declared.listed_line.ListedLine.{ListedLine}
use Rattle.h41_pages.specs.PageMap.{PageMap}
use Rattle.h41_positions.specs.PositionLaws.{Finding}
use Rattle.h41_positions.specs.declared.position.Position.{Position}
use Rattle.h41_laws_words.specs.HasOne.{HasOne}

-- Bytes have exactly one list of lines from each position on, wherever their last three bytes begin
-- and whichever lines end it, as in memory or in a page.
abbrev pub BytesHaveOneList : Type 0
BytesHaveOneList =
    (ends : Line → Bool) (bytes : List ℕ) (final at : ℕ) → HasOne (ReadsTo ends bytes final at)

-- A question about the list of lines from a position on has exactly one answer.
abbrev pub MemoryHasOneAnswer : Type 0 → Type 0
MemoryHasOneAnswer A =
    (answer : List ListedLine → A) (memory : RegisterMap) (at : ℕ)
    → HasOne (AnswersOf answer memory at)

-- A question about the program of a position has exactly one answer.
abbrev pub ProgramHasOneAnswer : Type 0 → Type 0
ProgramHasOneAnswer A =
    (answer : List ListedLine → A) (memory : RegisterMap) (at : ℕ)
    → HasOne (AnswersProgram answer memory at)

-- Each position in any pages and memory has exactly one answer of this kind.
abbrev pub PositionHasOne : {A : Type 0} → Finding A → Type 0
PositionHasOne answers =
    (pages : PageMap) (memory : RegisterMap) (at : Position) → HasOne (answers pages memory at)

-- Each position in any pages and memory has exactly one answer of this kind for each number.
abbrev pub PositionHasOneEach : {A : Type 0} → (ℕ → Finding A) → Type 0
PositionHasOneEach answers = (n : ℕ) → PositionHasOne (answers n)
