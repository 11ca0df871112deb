-- Laws of searches: each answer is determined, over any memory, and is that of the list of lines.
use Rattle.std.specs.Prelude.{◌≡◌, ℕ, IsTrue, List, Option, Result}
use Rattle.h41_ram.specs.RegisterMap.{RegisterMap, is_sound}
use Rattle.h41_program.specs.declared.listed_line.ListedLine.{ListedLine}
use Rattle.h41_program.specs.declared.refusal.ProgramRefusal.{ProgramRefusal}
use Rattle.h41_program.specs.ProgramLines.{AnswersFirst, AnswersNext, AnswersOf, LinesFrom, line_of}
use Rattle.h41_program.specs.ProgramLines.{next_of}
use Rattle.h41_program.specs.Searches.{AnswersLocal, AnswersProgram}

-- An answer of any type that depends on the list is determined: the starts of programs, the
-- positions of names, and whether the last program is open.
abbrev pub AnswersAreDetermined : Type 0 → Type 0
AnswersAreDetermined A =
    (memory : RegisterMap) (answer : List ListedLine → A) (at : ℕ) (result other : A)
    → AnswersOf answer memory at result → AnswersOf answer memory at other → result ≡ other

-- An answer that depends on the program of a position is determined, such as the numbers of its
-- lines.
abbrev pub ProgramIsDetermined : Type 0 → Type 0
ProgramIsDetermined A =
    (memory : RegisterMap) (answer : List ListedLine → A) (at : ℕ) (result other : A)
    → AnswersProgram answer memory at result → AnswersProgram answer memory at other
    → result ≡ other

-- A local label is found at one position.
abbrev pub LocalIsDetermined : Type 0
LocalIsDetermined =
    (memory : RegisterMap) (at n : ℕ) (found other : Option ℕ) → AnswersLocal memory at n found
    → AnswersLocal memory at n other
    → found ≡ other

-- The line at a position is determined.
abbrev pub LineIsDetermined : Type 0
LineIsDetermined =
    (memory : RegisterMap) (at : ℕ) (result other : Result ListedLine ProgramRefusal)
    → AnswersFirst memory at result → AnswersFirst memory at other → result ≡ other

-- The next position is determined.
abbrev pub NextIsDetermined : Type 0
NextIsDetermined =
    (memory : RegisterMap) (at : ℕ) (result other : Result ℕ ProgramRefusal)
    → AnswersNext memory at result → AnswersNext memory at other → result ≡ other

-- The line at a position is the first of the list from there on.
abbrev pub LineIsOfList : Type 0
LineIsOfList =
    (memory : RegisterMap) (at : ℕ)
    (result : Result ListedLine ProgramRefusal) (lines : List ListedLine)
    → IsTrue (is_sound memory)
    → AnswersFirst memory at result → LinesFrom memory at lines → result ≡ line_of lines

-- The next position is that of the second line of the list.
abbrev pub NextIsOfList : Type 0
NextIsOfList =
    (memory : RegisterMap) (at : ℕ) (result : Result ℕ ProgramRefusal) (lines : List ListedLine)
    → IsTrue (is_sound memory)
    → AnswersNext memory at result → LinesFrom memory at lines → result ≡ next_of lines
