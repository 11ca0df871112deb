-- Lines that are counted before a change, and found after it.
use Rattle.std.proofs.Common.{◌≡◌, ℕ, suc, ◌+◌, ◌-◌, ◌<◌, ◌≤◌, List, [], ◌∷◌, ◌++◌, length, refl, sym, ◌∙◌, ap, subst, arith, inl}
use Rattle.std.proofs.Common.{inr, Option, Some, rules}
use Rattle.std.specs.Prelude.{cond, nat_lt, slice_get}
use Rattle.std.specs.Option.{option_map_or}
use Rattle.std.proofs.lemmas.Bool.{cases_Bool, le-ltb, lt-ltb}
use Rattle.std.proofs.lemmas.List.Sums.{sum_by-append, sum_by-cons, sum_by_push}
use Rattle.h41_program.specs.declared.editing.InFront.TheVariants.{Start}
use Rattle.h41_program.specs.declared.listed_line.ListedLine.{ListedLine}
use Rattle.h41_program.specs.Edits.{count_before, front_behind, position_in_front}
use Rattle.h41_program.specs.Lines.{is_final_end}
use Rattle.h41_program.specs.FirstLines.{FirstFrom, IsFirst, behind}
use Rattle.h41_program.specs.ProgramLines.{Reads}
use Rattle.h41_program.proofs.Walks.{last_rest, more_rest}

one_add : (n : ℕ) → 1 + n ≡ suc n
one_add n = omega arith

zero_add : (n : ℕ) → 0 + n ≡ n
zero_add n = omega arith

add_zero : (n : ℕ) → n + 0 ≡ n
add_zero n = omega arith

-- Whether a line counts.
abbrev counts : ℕ → ListedLine → ℕ
counts place listed = cond (nat_lt listed.position place) 1 0

counts_none : (place : ℕ) (listed : ListedLine) → place ≤ listed.position → counts place listed ≡ 0
counts_none place listed above = ap (λ b. cond b 1 0) (le-ltb listed.position place above)

counts_one : (place : ℕ) (listed : ListedLine) → listed.position < place → counts place listed ≡ 1
counts_one place listed below = ap (λ b. cond b 1 0) (lt-ltb listed.position place below)

pub count_cons : (place : ℕ) (first : ListedLine) (rest : List ListedLine) → first.position < place
    → count_before place (first ∷ rest) ≡ suc (count_before place rest)
count_cons place first rest below =
    sum_by-cons (counts place) first rest ∙ ap (λ (n : ℕ). n + count_before place rest) (counts_one place first below)
    ∙ one_add (count_before place rest)

pub count_more : (place : ℕ) (before : List ListedLine) (listed : ListedLine) → listed.position < place
    → count_before place (before ++ listed ∷ []) ≡ count_before place before + 1
count_more place before listed below =
    sum_by_push (counts place) before listed ∙ ap (λ (n : ℕ). count_before place before + n) (counts_one place listed below)

-- No line from a position on counts if the position is not before the place.
pub none_before : (bytes : List ℕ) (final place at : ℕ) (lines : List ListedLine)
    → ((first : ListedLine) → FirstFrom bytes final at first → place ≤ first.position) → Reads bytes final at lines
    → count_before place lines ≡ 0
none_before bytes final place at [] above reads = refl
none_before bytes final place at (first ∷ rest) above reads =
    let here = above first reads.0 in
    let rests : count_before place rest ≡ 0 = elim (cases_Bool (is_final_end first.line)) [
      | inl last ↦ ap (count_before place) (last_rest bytes final (behind first) (is_final_end first.line) rest last reads.1)
      | inr other ↦
          none_before bytes final place (behind first) rest (λ next is. let from = is.from in omega (arith, here, from))
          (more_rest bytes final (behind first) (is_final_end first.line) rest other reads.1)
    ] in
    sum_by-cons (counts place) first rest ∙ ap (λ (n : ℕ). n + count_before place rest) (counts_none place first here)
    ∙ zero_add (count_before place rest) ∙ rests

-- A walk stops at the first line that does not count.
pub count_stops : (bytes : List ℕ) (final place at next : ℕ) (before rest lines : List ListedLine) (listed : ListedLine)
    → IsFirst bytes final at listed next → place ≤ listed.position → lines ≡ before ++ rest → Reads bytes final at rest
    → count_before place before ≡ count_before place lines
count_stops bytes final place at next before rest lines listed is above whole reads =
    let none =
    none_before bytes final place at rest
    (λ first is_first. subst (λ (l : ListedLine). place ≤ l.position) (sym (is.one first is_first)) above) reads in
    sym (ap (count_before place) whole ∙ sum_by-append (counts place) before rest ∙ ap (λ (n : ℕ). count_before place before + n) none
    ∙ add_zero (count_before place before))

-- The last of this many lines, if there are any.
pub in_front : (count : ℕ) (lines : List ListedLine) (last : Option ListedLine) → (count ≡ 0 → ⊥) → last ≡ slice_get lines (count - 1)
    → option_map_or front_behind last (Start 0) ≡ position_in_front count lines
in_front count lines last some is = search rules

-- The line after others.
pub get_behind : (before : List ListedLine) (listed : ListedLine) (rest : List ListedLine)
    → slice_get (before ++ listed ∷ rest) (length before) ≡ Some listed
get_behind [] listed rest = refl
get_behind (first ∷ before) listed rest = get_behind before listed rest
