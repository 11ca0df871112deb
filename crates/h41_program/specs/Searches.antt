-- The starts and ends of programs, and the positions of labels, in the list of lines.
use Rattle.std.specs.Prelude.{◌≡◌, ℕ, not, ◌&&◌, ◌||◌, List, [], ◌∷◌, find, reverse, nat_lt}
use Rattle.std.specs.Prelude.{if◌then◌else◌, Option}
use Rattle.std.specs.List.{take_while}
use Rattle.std.specs.Option.{option_map, option_map_or, option_or}
use Rattle.h41_ram.specs.RegisterMap.{RegisterMap}
use Rattle.h41_program.specs.declared.listed_line.ListedLine.{ListedLine}
use Rattle.h41_program.specs.Lines.{is_end, is_final_end, is_label, is_named}
use Rattle.h41_program.specs.FirstLines.{behind}
use Rattle.h41_program.specs.ProgramLines.{LinesFrom}

-- The last END before a position.
abbrev pub end_before : ℕ → List ListedLine → Option ListedLine
end_before at lines =
    find (λ listed. is_end listed.line && nat_lt listed.position at) (reverse lines)

-- The start of the program of a position: after that END, or 0.
abbrev pub start_in : ℕ → List ListedLine → ℕ
start_in at lines = option_map_or behind (end_before at lines) 0

-- The lines of a list up to and including the first END.
abbrev pub up_to_end : List ListedLine → List ListedLine
up_to_end [] = []
up_to_end (first ∷ rest) = if is_end first.line then first ∷ [] else first ∷ up_to_end rest

-- The first LBL n of the lines before their END.
abbrev pub label_in : ℕ → List ListedLine → Option ListedLine
label_in n lines =
    find (λ listed. is_label n listed.line) (take_while (λ listed. not (is_end listed.line)) lines)

-- The last LBL with this name.
abbrev pub named_in : List ℕ → List ListedLine → Option ListedLine
named_in name lines = find (λ listed. is_named name listed.line) (reverse lines)

-- The position of a line, if there is one.
abbrev pub position_of : Option ListedLine → Option ℕ
position_of found = option_map (λ listed. listed.position) found

-- The position of the first END or .END. of the lines.
abbrev pub end_in : List ListedLine → Option ℕ
end_in lines = position_of (find (λ listed. is_end listed.line || is_final_end listed.line) lines)

-- The answer for the program of a position is that for the lines from the program's start to its
-- END.
pub record AnswersProgram {A : Type 0} (answer : List ListedLine → A)
    (memory : RegisterMap) (at : ℕ) (result : A) : Type 0 where
  pub lines : List ListedLine
  pub own : List ListedLine
  pub all : LinesFrom memory 0 lines
  pub program : LinesFrom memory (start_in at lines) own
  pub is : result ≡ answer (up_to_end own)

-- The position of LBL n for a search from a position: the first one up to the END, otherwise the
-- first one of the program.
pub record AnswersLocal (memory : RegisterMap) (at n : ℕ) (result : Option ℕ) : Type 0 where
  pub lines : List ListedLine
  pub onward : List ListedLine
  pub own : List ListedLine
  pub all : LinesFrom memory 0 lines
  pub from : LinesFrom memory at onward
  pub program : LinesFrom memory (start_in at lines) own
  pub is : result ≡ position_of (option_or (label_in n onward) (label_in n own))
