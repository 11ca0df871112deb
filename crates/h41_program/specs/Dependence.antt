-- Lists of lines and searches depend only on register c and the registers from .END. to below the
-- curtain.
use Rattle.std.specs.Prelude.{◌≡◌, ℕ, List, Option, Result}
use Rattle.h41_ram.specs.RamState.{SameProgram}
use Rattle.h41_ram.specs.RegisterMap.{RegisterMap, is_sound}
use Rattle.h41_program.specs.declared.listed_line.ListedLine.{ListedLine}
use Rattle.h41_program.specs.declared.reading.Found.{Found}
use Rattle.h41_program.specs.declared.refusal.ProgramRefusal.{ProgramRefusal}
use Rattle.h41_program.specs.ProgramLines.{AnswersFirst, AnswersNext, AnswersOf, HasFirst}
use Rattle.h41_program.specs.ProgramLines.{HasNoLine, LinesFrom}
use Rattle.h41_program.specs.Searches.{AnswersLocal, AnswersProgram}

-- Of two memories with the same program, both are sound or neither is.
abbrev pub SoundnessDepends : Type 0
SoundnessDepends =
    (memory other : RegisterMap) → SameProgram memory other → is_sound memory ≡ is_sound other

-- They have the same lists of lines.
abbrev pub ListsDepend : Type 0
ListsDepend =
    (memory other : RegisterMap) (at : ℕ) (lines : List ListedLine) → SameProgram memory other
    → LinesFrom memory at lines → LinesFrom other at lines

-- They have the same first lines.
abbrev pub FirstsDepend : Type 0
FirstsDepend =
    (memory other : RegisterMap) (at : ℕ) (found : Found) → SameProgram memory other
    → HasFirst memory at found → HasFirst other at found

-- They have no line from the same positions on.
abbrev pub NonesDepend : Type 0
NonesDepend =
    (memory other : RegisterMap) (at : ℕ) → SameProgram memory other → HasNoLine memory at
    → HasNoLine other at

-- They have the same line at a position.
abbrev pub LineDepends : Type 0
LineDepends =
    (memory other : RegisterMap) (at : ℕ) (result : Result ListedLine ProgramRefusal)
    → SameProgram memory other
    → AnswersFirst memory at result → AnswersFirst other at result

-- They have the same next position.
abbrev pub NextDepends : Type 0
NextDepends =
    (memory other : RegisterMap) (at : ℕ) (result : Result ℕ ProgramRefusal)
    → SameProgram memory other
    → AnswersNext memory at result → AnswersNext other at result

-- They have the same answer of any type that depends on the list: the starts of programs, the
-- positions of names, and whether the last program is open.
abbrev pub AnswersDepend : Type 0 → Type 0
AnswersDepend A =
    (memory other : RegisterMap) (answer : List ListedLine → A) (at : ℕ) (result : A)
    → SameProgram memory other
    → AnswersOf answer memory at result → AnswersOf answer other at result

-- They have the same answer that depends on the program of a position, such as the numbers of its
-- lines.
abbrev pub ProgramDepends : Type 0 → Type 0
ProgramDepends A =
    (memory other : RegisterMap) (answer : List ListedLine → A) (at : ℕ) (result : A)
    → SameProgram memory other
    → AnswersProgram answer memory at result → AnswersProgram answer other at result

-- They have the same answers of searches for local labels.
abbrev pub LocalDepends : Type 0
LocalDepends =
    (memory other : RegisterMap) (at n : ℕ) (result : Option ℕ) → SameProgram memory other
    → AnswersLocal memory at n result → AnswersLocal other at n result
