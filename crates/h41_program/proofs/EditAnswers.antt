-- The answer of a change that was made.
use Rattle.std.proofs.Common.{◌≡◌, ℕ, zero, suc, Bool, true, List, [], ◌∷◌, ◌++◌, refl, sym, ◌∙◌, ap, subst, Option, Some}
use Rattle.std.proofs.Common.{None, Ok, rules}
use Rattle.std.specs.Prelude.{is_some, slice_get}
use Rattle.std.specs.List.{flat_map}
use Rattle.std.specs.Option.{option_map}
use Rattle.std.proofs.lemmas.Option.{none-some, same_Some, slice_get-map}
use Rattle.h41_codes.specs.ByteLaws.{ByteRoundTrip, OneLine}
use Rattle.h41_codes.specs.declared.line.Line.{Line}
use Rattle.h41_codes.specs.declared.line.Line.TheVariants.{FinalEnd}
use Rattle.h41_ram.specs.RegisterMap.{RegisterMap, is_sound}
use Rattle.h41_program.specs.declared.editing.Change.TheVariants.{Put}
use Rattle.h41_program.specs.declared.editing.InFront.{InFront}
use Rattle.h41_program.specs.declared.editing.Placement.{Placement}
use Rattle.h41_program.specs.declared.editing.Placement.TheVariants.{Before, Instead}
use Rattle.h41_program.specs.declared.listed_line.ListedLine.{ListedLine}
use Rattle.h41_program.specs.declared.reading.Found.{Found}
use Rattle.h41_program.specs.Edits.{AnswersChanged, Edits, LeavesChanged, Stands, StandsBefore, StandsNew, changed_outcome}
use Rattle.h41_program.specs.Edits.{count_before, has_line_at, lines_of, position_in_front, position_behind}
use Rattle.h41_program.specs.private.EditSteps.{Counts, lines_of_change, listed_of}
use Rattle.h41_program.specs.ProgramLaws.{IsInner}
use Rattle.h41_program.specs.ProgramBytes.{program_bytes, final_position}
use Rattle.h41_program.specs.FirstLines.{FirstFrom}
use Rattle.h41_program.specs.ProgramLines.{LinesFrom}
use Rattle.h41_program.specs.Rewriting.{HasOutcome}
use Rattle.h41_program.specs.Searches.{position_of}
use Rattle.h41_program.proofs.Determined.{first_determined, lists_determined}
use Rattle.h41_program.proofs.Inner.{KeepsInner, inserted_inner, replaced_inner}
use Rattle.h41_program.proofs.NewLines.{Begins, Keeps, get_first, inserted_begins, inserted_keeps, new_there, replaced_begins}
use Rattle.h41_program.proofs.NewLines.{replaced_keeps}
use Rattle.h41_program.proofs.Outcomes.{edit_read}
use Rattle.std.proofs.lemmas.Bool.Decides.{nat_tests}

-- A change that was made had a line to be changed.
was_made : (b : Bool) (old new : RegisterMap) (lines : List Line) → HasOutcome old new (Ok tt) (changed_outcome b old lines) → b ≡ true
was_made b old new lines has = search rules

pub record HadLine (old : RegisterMap) (at : ℕ) : Type 0 where
  pub first : ListedLine
  pub lines : List ListedLine
  pub stands : FirstFrom (program_bytes old) (final_position old) at first
  pub from : LinesFrom old 0 lines
  pub has : has_line_at first.position lines ≡ true

edit_had : (old new : RegisterMap) (change : ℕ → ListedLine → List Line) (at : ℕ) → Edits old new change at (Ok tt) → HadLine old at
edit_had old new change at edits = search (rules, was_made, nat_tests)

-- Lines of a longer list, and of one with positions.
get_front : (xs ys : List Line) (k : ℕ) (x : Line) → slice_get xs k ≡ Some x → slice_get (xs ++ ys) k ≡ Some x
get_front [] ys k x is = cc
get_front (first ∷ xs) ys zero x is = is
get_front (first ∷ xs) ys (suc k) x is = get_front xs ys k x is

pub record HasNew (listed : List ListedLine) (count : ℕ) (line : Line) : Type 0 where
  pub there : ListedLine
  pub got : slice_get listed count ≡ Some there
  pub same : there.line ≡ line

of_line : (listed : List ListedLine) (count : ℕ) (line : Line) (o : Option ListedLine) → slice_get listed count ≡ o
    → option_map (λ each. each.line) o ≡ Some line → HasNew listed count line
of_line listed count line None is same = absurd (none-some line same)
of_line listed count line (Some there) is same = record { there = there; got = is; same = same_Some there.line line same }

-- A change that writes a line at a place and leaves the others unchanged.
pub record PutsAt (line : Line) (change : ℕ → ListedLine → List Line) : Type 0 where
  pub begins : (place : ℕ) → Begins place line (change place)
  pub keeps : (place : ℕ) → Keeps place (change place)
  pub inner : (place : ℕ) → KeepsInner (change place)

pub put_there : (line : Line) (placement : Placement) → IsInner line → PutsAt line (lines_of_change (Put line placement))
put_there line Before inner = search (rules, inserted_begins, inserted_keeps, inserted_inner)
put_there line Instead inner = search (rules, replaced_begins, replaced_keeps, replaced_inner)

-- After such a change as many lines precede the new line.
pub record LeavesNew (old : RegisterMap) (change : ℕ → ListedLine → List Line)
    (at : ℕ) (new : RegisterMap) (count : ℕ) (line : Line) : Type 0 where
  pub leaves : LeavesChanged old change at new
  pub has : HasNew leaves.listed count line

module _ (again : ByteRoundTrip) (one : OneLine) (old new : RegisterMap)
    (change : ℕ → ListedLine → List Line) (at count : ℕ) (line : Line) where
  pub leaves_new : is_sound old ≡ true → PutsAt line change → Edits old new change at (Ok tt) → Counts old at count
      → LeavesNew old change at new count line
  leaves_new sound puts edits counts =
      let leaves = edit_read again old new change at (Ok tt) sound puts.inner edits in
      let had = edit_had old new change at edits in
      let place = leaves.first.position in
      let first = first_determined one (program_bytes old) (final_position old) at had.first leaves.first had.stands leaves.stands in
      let lines = lists_determined one old 0 had.lines leaves.lines had.from leaves.from in
      let counted =
      first_determined one (program_bytes old) (final_position old) at counts.first leaves.first counts.stands leaves.stands in
      let counted_lines = lists_determined one old 0 counts.lines leaves.lines counts.from leaves.from in
      let has : has_line_at place leaves.lines ≡ true =
      ap (λ (l : List ListedLine). has_line_at place l) (sym lines) ∙ ap (λ (l : ListedLine). has_line_at l.position had.lines) (sym first)
      ∙ had.has in
      let number : count ≡ count_before place leaves.lines =
      counts.is ∙ ap (λ (l : ListedLine). count_before l.position counts.lines) counted ∙ ap (count_before place) counted_lines in
      let there =
      new_there (program_bytes old) (final_position old) place line (change place)
      (puts.begins place) (puts.keeps place) 0 leaves.lines (leaves.from.sound sound) has in
      let all : slice_get (lines_of leaves.listed) count ≡ Some line =
      ap (λ (l : List Line). slice_get l count) leaves.same
      ∙ ap (slice_get (flat_map (change place) leaves.lines ++ FinalEnd 0 0 ∷ [])) number
      ∙ get_front (flat_map (change place) leaves.lines) (FinalEnd 0 0 ∷ []) (count_before place leaves.lines) line there in
      record {
        leaves = leaves;
        has =
            of_line leaves.listed count line (slice_get leaves.listed count) refl
            (sym (slice_get-map (λ (each : ListedLine). each.line) leaves.listed count) ∙ all);
      }

  -- The line begins at its own position.
  pub stands_there : is_sound new ≡ true → (left : LeavesNew old change at new count line) (found : ListedLine)
      → Some found ≡ slice_get left.leaves.listed count → Stands new line found.position
  stands_there sound left found is =
      let there = left.has.there in
      let first =
      get_first (program_bytes new) (final_position new) 0 left.leaves.listed count there (left.leaves.read.sound sound) left.has.got in
      subst (λ (l : ListedLine). Stands new line l.position) (sym (same_Some found there (is ∙ left.has.got)))
      (subst (λ (l : Line). Stands new l there.position) left.has.same first)

-- A line that was found.
pub some_found : (o : Option Found) (listed : ListedLine) → listed_of o ≡ Some listed → is_some o ≡ true
some_found None listed is = absurd (none-some listed is)
some_found (Some found) listed is = refl

-- The answers.
module _ (old new : RegisterMap) (at count : ℕ) (counts : Counts old at count)
    (listed : List ListedLine) (read : LinesFrom new 0 listed) where
  answers_changed : {A : Type 0} (answer : ℕ → List ListedLine → A) (result : A) → result ≡ answer count listed
      → AnswersChanged answer old at new result
  answers_changed answer result is = search rules

  pub stands_new : (found : ListedLine) → Some found ≡ slice_get listed count → StandsNew old at new found.position
  stands_new found is = answers_changed position_behind (Some found.position) (ap position_of is)

  pub stands_before : (result : InFront) → result ≡ position_in_front count listed → StandsBefore old at new result
  stands_before result is = answers_changed position_in_front result is
