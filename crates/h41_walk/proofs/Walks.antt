-- The lines of a program, line by line.
use Rattle.std.proofs.Common.{◌≡◌, ℕ, suc, ◌+◌, ◌-◌, Bool, true, false, List, [], ◌∷◌, Option, Some, None, refl, sym, ap, ◌∙◌, rules}
use Rattle.std.proofs.Common.{arith, subst}
use Rattle.std.specs.Prelude.{MatchBool, ◌==◌}
use Rattle.std.specs.Option.{option_map}
use Rattle.h41_codes.specs.declared.line.Line.{Line}
use Rattle.h41_program.specs.Lines.{is_end, is_final_end, is_label}
use Rattle.h41_program.specs.Numbering.{number_in, numbered_in}
use Rattle.h41_program.specs.FirstLines.{behind}
use Rattle.h41_program.specs.Searches.{end_in, position_of}
use Rattle.h41_program.specs.declared.listed_line.ListedLine.{ListedLine}
use Rattle.h41_program.specs.declared.reading.Found.{Found}
use Rattle.h41_program.specs.declared.reading.LinePlace.{LinePlace}
use Rattle.h41_program.proofs.SearchSteps.{label_in-end, label_in-here, label_in-other}
use Rattle.h41_program.specs.Sources.{HasFirst, HasNoLine, ProgramFrom, Source, is_program_end}
use Rattle.h41_walk.specs.Searches.{label_position}
use Rattle.std.proofs.lemmas.Bool.{cases_Bool}
use Rattle.std.proofs.lemmas.Bool.Decides.{nat_tests}

-- The lines from a position on, by the first of them.
module _ (source : Source) (at : ℕ) (found : Found) (is : HasFirst source at found) where
  abbrev listed : ListedLine
  listed = found.listed

  pub first_rest : (lines : List ListedLine) → ProgramFrom source at lines
      → (rest : List ListedLine) × (lines ≡ found.listed ∷ rest)
      × MatchBool (is_program_end found.listed.line) (rest ≡ []) (ProgramFrom source found.behind rest)
  first_rest [] reads = absurd (reads found.listed is.first)
  first_rest (first ∷ rest) reads = search rules

pub no_rest : (source : Source) (at : ℕ) (lines : List ListedLine) → HasNoLine source at → ProgramFrom source at lines → lines ≡ []
no_rest source at [] none reads = refl
no_rest source at (first ∷ rest) none reads = absurd (none first reads.0)

last_rest : (source : Source) (next : ℕ) (b : Bool) (rest : List ListedLine) → b ≡ true
    → MatchBool b (rest ≡ []) (ProgramFrom source next rest) → rest ≡ []
last_rest source next b rest is matches = subst (λ (t : Bool). MatchBool t (rest ≡ []) (ProgramFrom source next rest)) is matches

more_rest : (source : Source) (next : ℕ) (b : Bool) (rest : List ListedLine) → b ≡ false
    → MatchBool b (rest ≡ []) (ProgramFrom source next rest) → ProgramFrom source next rest
more_rest source next b rest is matches = subst (λ (t : Bool). MatchBool t (rest ≡ []) (ProgramFrom source next rest)) is matches

-- The question about the remaining lines has the same answer as the question about all lines.
abbrev pub Asks : {A : Type 0} → Source → ℕ → ℕ → (List ListedLine → A) → (List ListedLine → A) → Type 0
Asks source from at answer left =
    (lines : List ListedLine) → ProgramFrom source from lines
    → (rest : List ListedLine) × ProgramFrom source at rest × (answer lines ≡ left rest)

pub asks_all : {A : Type 0} (source : Source) (from : ℕ) (answer : List ListedLine → A) → Asks source from from answer answer
asks_all source from answer lines reads = (lines, reads, refl)

module _ {A : Type 0} (source : Source) (from at : ℕ) (answer left : List ListedLine → A) (asks : Asks source from at answer left) where
  -- The question after a line that does not end the program.
  pub asks_more : (more : List ListedLine → A) (found : Found) → HasFirst source at found → is_program_end found.listed.line ≡ false
      → ((rest : List ListedLine) → left (found.listed ∷ rest) ≡ more rest)
      → Asks source from found.behind answer more
  asks_more more found is other goes lines reads = search (rules, first_rest, more_rest)

  -- The answer at the end of the lines, at a line, and at a line that ends the program.
  pub asked_none : (lines : List ListedLine) → HasNoLine source at → ProgramFrom source from lines → left [] ≡ answer lines
  asked_none lines none reads = let here = asks lines reads in sym (here.2 ∙ ap left (no_rest source at here.0 none here.1))

  pub asked_first : (found : Found) (lines : List ListedLine) (result : A) → HasFirst source at found → ProgramFrom source from lines
      → ((rest : List ListedLine) → left (found.listed ∷ rest) ≡ result) → result ≡ answer lines
  asked_first found lines result is reads goes = search (rules, first_rest)

  pub asked_last : (found : Found) (lines : List ListedLine) (result : A) → HasFirst source at found
      → is_program_end found.listed.line ≡ true → ProgramFrom source from lines → left (found.listed ∷ []) ≡ result → result ≡ answer lines
  asked_last found lines result is last reads goes = search (rules, first_rest, last_rest)

-- The first line from a position on, at its place.
abbrev pub found_at : LinePlace → Line → Found
found_at place line = record { listed = record { position = place.position; line = line }; behind = place.behind }

-- The end of a program.
pub end_here : (listed : ListedLine) (rest : List ListedLine) → is_program_end listed.line ≡ true
    → end_in (listed ∷ rest) ≡ Some listed.position
end_here listed rest ends = rw ends refl

pub end_other : (listed : ListedLine) (rest : List ListedLine) → is_program_end listed.line ≡ false
    → end_in (listed ∷ rest) ≡ end_in rest
end_other listed rest other = rw other refl

-- The kinds of a line.
pub ends_program : (line : Line) → is_end line ≡ true → is_program_end line ≡ true
ends_program line is = grind arith

pub ends_memory : (line : Line) → is_final_end line ≡ true → is_program_end line ≡ true
ends_memory line is = grind arith

pub ends_none : (line : Line) → is_end line ≡ false → is_final_end line ≡ false → is_program_end line ≡ false
ends_none line end final = rw (end, final) refl

no_end : (line : Line) → is_program_end line ≡ false → is_end line ≡ false
no_end line other = grind arith

-- A label in a program.
pub label_here : (n : ℕ) (listed : ListedLine) (rest : List ListedLine) → is_label n listed.line ≡ true
    → label_position n (listed ∷ rest) ≡ Some listed.position
label_here n listed rest label = ap position_of (label_in-here n listed rest label)

pub label_other : (n : ℕ) (listed : ListedLine) (rest : List ListedLine) → is_program_end listed.line ≡ false
    → is_label n listed.line ≡ false
    → label_position n (listed ∷ rest) ≡ label_position n rest
label_other n listed rest other none = ap position_of (label_in-other n listed rest (no_end listed.line other) none)

pub label_last : (n : ℕ) (listed : ListedLine) → is_label n listed.line ≡ false → label_position n (listed ∷ []) ≡ None
label_last n listed none = search (rules, cases_Bool, label_in-end, label_in-other)

-- Tests of numbers.
pub same_test : (a b : ℕ) → a ≡ b → (a == b) ≡ true
same_test a b same = grind (arith, nat_tests)

pub other_test : (a b : ℕ) → (a ≡ b → ⊥) → (a == b) ≡ false
other_test a b other = grind (arith, nat_tests)

-- The number of a line, if this many lines were counted.
abbrev pub counted : ℕ → ℕ → List ListedLine → Option ℕ
counted count position lines = option_map (λ n. count + n) (number_in position lines)

from_none : (number : Option ℕ) → number ≡ option_map (λ n. 0 + n) number
from_none number = grind arith

pub counted_none : (source : Source) (from position : ℕ) → Asks source from from (number_in position) (counted 0 position)
counted_none source from position lines reads = (lines, reads, from_none (number_in position lines))

one_more : (count : ℕ) (number : Option ℕ)
    → option_map (λ n. count + n) (option_map suc number) ≡ option_map (λ n. count + 1 + n) number
one_more count number = grind arith

pub counted_here : (count position : ℕ) (listed : ListedLine) (rest : List ListedLine) → (listed.position == position) ≡ true
    → counted count position (listed ∷ rest) ≡ Some (count + 1)
counted_here count position listed rest same = rw same refl

pub counted_other : (count position : ℕ) (listed : ListedLine) (rest : List ListedLine) → (listed.position == position) ≡ false
    → counted count position (listed ∷ rest) ≡ counted (count + 1) position rest
counted_other count position listed rest other = rw other (one_more count (number_in position rest))

-- The line with a number.
pub numbered_here : (number : ℕ) (listed : ListedLine) (rest : List ListedLine) → (number == 1) ≡ true
    → numbered_in number (listed ∷ rest) ≡ Some listed.position
numbered_here number listed rest same = rw same refl

pub numbered_other : (number : ℕ) (listed : ListedLine) (rest : List ListedLine) → (number == 1) ≡ false
    → numbered_in number (listed ∷ rest) ≡ numbered_in (number - 1) rest
numbered_other number listed rest other = rw other refl
