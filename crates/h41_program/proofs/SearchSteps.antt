-- Searches, line by line.
use Rattle.std.proofs.Common.{◌≡◌, ℕ, ◌≤◌, Bool, true, false, List, [], ◌∷◌, ◌++◌, refl, sym, ◌∙◌, ap, Option, Some, None, arith, inl, inr}
use Rattle.std.proofs.Common.{append_assoc, rules}
use Rattle.std.proofs.Math.Bool.{and-false}
use Rattle.std.proofs.lemmas.Bool.{cases_Bool}
use Rattle.std.specs.Prelude.{◌&&◌, not, nat_lt, reverse, find, if◌then◌else◌, MatchBool}
use Rattle.std.specs.List.{take_while}
use Rattle.std.specs.Option.{option_map_or, option_or}
use Rattle.std.proofs.lemmas.List.{reverse-append}
use Rattle.std.proofs.lemmas.List.Sums.{take_while-cons}
use Rattle.h41_codes.specs.declared.line.Line.{Line}
use Rattle.h41_codes.specs.declared.line.Line.TheVariants.{End, FinalEnd}
use Rattle.h41_program.specs.declared.listed_line.ListedLine.{ListedLine}
use Rattle.h41_program.specs.Lines.{is_end, is_final_end, is_label, is_named}
use Rattle.h41_program.specs.FirstLines.{behind}
use Rattle.h41_program.specs.ProgramLines.{Reads}
use Rattle.h41_program.proofs.Cases.{above_test, not_empty}
use Rattle.h41_program.proofs.Walks.{last_rest, more_rest}
use Rattle.h41_program.specs.Searches.{start_in, label_in, named_in, position_of}
use Rattle.std.proofs.lemmas.Option.{none-some}

-- .END. is no END and no label.
final_no_end : (line : Line) → is_final_end line ≡ true → is_end line ≡ false
final_no_end (FinalEnd link marks) final = refl
final_no_end line final = cc

final_no_name : (name : List ℕ) (line : Line) → is_final_end line ≡ true → is_named name line ≡ false
final_no_name name (FinalEnd link marks) final = refl
final_no_name name line final = cc

-- A label is no END.
label_no_end : (n : ℕ) (line : Line) → is_label n line ≡ true → is_end line ≡ false
label_no_end n (End link marks) is = cc
label_no_end n line is = refl

back : (before : List ListedLine) (listed : ListedLine) → reverse (before ++ listed ∷ []) ≡ listed ∷ reverse before
back before listed = reverse-append before (listed ∷ [])

chosen_start : (b : Bool) (listed : ListedLine) (found : Option ListedLine)
    → option_map_or behind (if b then Some listed else found) 0 ≡ (if b then behind listed else option_map_or behind found 0)
chosen_start true listed found = refl
chosen_start false listed found = refl

chosen_position : (b : Bool) (listed : ListedLine) (found : Option ListedLine)
    → position_of (if b then Some listed else found) ≡ (if b then Some listed.position else position_of found)
chosen_position true listed found = refl
chosen_position false listed found = refl

pub start_in-more : (at : ℕ) (before : List ListedLine) (listed : ListedLine)
    → start_in at (before ++ listed ∷ []) ≡ (if is_end listed.line && nat_lt listed.position at then behind listed else start_in at before)
start_in-more at before listed = search (rules, back, chosen_start)

pub start_in-final : (at : ℕ) (before : List ListedLine) (listed : ListedLine) → is_final_end listed.line ≡ true
    → start_in at (before ++ listed ∷ []) ≡ start_in at before
start_in-final at before listed final = start_in-more at before listed ∙ (rw (final_no_end listed.line final) refl)

-- A line at or after a position does not affect the start of the position's program, and neither do the lines after it.
start_in-at : (at : ℕ) (before : List ListedLine) (listed : ListedLine) → at ≤ listed.position
    → start_in at (before ++ listed ∷ []) ≡ start_in at before
start_in-at at before listed above = search (rules, above_test, and-false, start_in-more)

pub start_in-behind : (at : ℕ) (bytes : List ℕ) (final next : ℕ) (before : List ListedLine)
    (listed : ListedLine) (rest : List ListedLine) → at ≤ listed.position → next ≡ behind listed
    → MatchBool (is_final_end listed.line) (rest ≡ []) (Reads bytes final next rest)
    → start_in at (before ++ listed ∷ rest) ≡ start_in at before
start_in-behind at bytes final next before listed [] above is reads = start_in-at at before listed above
start_in-behind at bytes final next before listed (second ∷ rest) above is reads =
    let onward : Reads bytes final next (second ∷ rest) = elim (cases_Bool (is_final_end listed.line)) [
      | inl last ↦ absurd (not_empty second rest (last_rest bytes final next (is_final_end listed.line) (second ∷ rest) last reads))
      | inr running ↦ more_rest bytes final next (is_final_end listed.line) (second ∷ rest) running reads
    ] in
    let low = onward.0.from in
    ap (start_in at) (sym (append_assoc before (listed ∷ []) (second ∷ rest)))
    ∙ start_in-behind at bytes final (behind second) (before ++ listed ∷ []) second rest (omega (arith, above, is, low)) refl onward.1
    ∙ start_in-at at before listed above

pub named_in-more : (name : List ℕ) (before : List ListedLine) (listed : ListedLine)
    → position_of (named_in name (before ++ listed ∷ []))
    ≡ (if is_named name listed.line then Some listed.position else position_of (named_in name before))
named_in-more name before listed = search (rules, back, chosen_position)

pub named_in-final : (name : List ℕ) (before : List ListedLine) (listed : ListedLine) → is_final_end listed.line ≡ true
    → position_of (named_in name (before ++ listed ∷ [])) ≡ position_of (named_in name before)
named_in-final name before listed final = named_in-more name before listed ∙ (rw (final_no_name name listed.line final) refl)

-- One line of a search for a label.
module _ (n : ℕ) (listed : ListedLine) (rest : List ListedLine) where
  abbrev kept : List ListedLine
  kept = take_while (λ each. not (is_end each.line)) rest

  by_tests : label_in n (listed ∷ rest) ≡ find (λ each. is_label n each.line) (if not (is_end listed.line) then listed ∷ kept else [])
  by_tests = ap (find (λ each. is_label n each.line)) (take_while-cons (λ each. not (is_end each.line)) listed rest)

  pub label_in-end : is_end listed.line ≡ true → label_in n (listed ∷ rest) ≡ None
  label_in-end is = by_tests ∙ (rw is refl)

  pub label_in-here : is_label n listed.line ≡ true → label_in n (listed ∷ rest) ≡ Some listed
  label_in-here is = by_tests ∙ (rw (label_no_end n listed.line is, is) refl)

  pub label_in-other : is_end listed.line ≡ false → is_label n listed.line ≡ false → label_in n (listed ∷ rest) ≡ label_in n rest
  label_in-other other no_label = by_tests ∙ (rw (other, no_label) refl)

-- A search that found a line needs no second search.
pub some_or : (first second : Option ListedLine) (position : ℕ) → position_of first ≡ Some position
    → Some position ≡ position_of (option_or first second)
some_or None second position found = absurd (none-some position found)
some_or (Some listed) second position found = sym found

-- After a search that found nothing, the answer is that of the second search.
pub none_or : (first second : Option ListedLine) (result : Option ℕ) → position_of first ≡ None → result ≡ position_of second
    → result ≡ position_of (option_or first second)
none_or None second result none same = same
none_or (Some listed) second result none same = absurd (none-some listed.position (sym none))
