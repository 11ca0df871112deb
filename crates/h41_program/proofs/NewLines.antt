-- The new line of a changed list: as many lines precede it as preceded its place.
use Rattle.std.proofs.Common.{◌≡◌, ℕ, zero, suc, ◌<◌, ◌≤◌, Bool, true, false, List, [], ◌∷◌, ◌++◌, refl, sym, ◌∙◌, ap, subst, arith, inl}
use Rattle.std.proofs.Common.{inr, Some, rules}
use Rattle.std.specs.Prelude.{◌==◌, ◌||◌, slice_get}
use Rattle.std.specs.List.{flat_map}
use Rattle.std.proofs.lemmas.Bool.{cases_Bool, true≢false}
use Rattle.std.proofs.lemmas.Bool.Decides.{nat_tests}
use Rattle.h41_codes.specs.declared.line.Line.{Line}
use Rattle.h41_program.specs.declared.listed_line.ListedLine.{ListedLine}
use Rattle.h41_program.specs.Edits.{count_before, has_line_at, with_inserted, with_replaced, own_line}
use Rattle.h41_program.specs.Lines.{is_final_end}
use Rattle.h41_program.specs.FirstLines.{FirstFrom, behind}
use Rattle.h41_program.specs.ProgramLines.{Reads}
use Rattle.h41_program.proofs.EditPlaces.{count_cons, none_before}
use Rattle.h41_program.proofs.ListLaws.{own_reads}
use Rattle.h41_program.proofs.Walks.{last_rest, more_rest}
use Rattle.std.proofs.lemmas.Option.{none-some}

same_of : (a b : ℕ) → (a == b) ≡ true → a ≡ b
same_of a b is = grind (arith, nat_tests)

other_of : (a b : ℕ) → (a == b) ≡ false → a ≡ b → ⊥
other_of a b is same = grind (arith, nat_tests)

-- A change writes a line at a place, and leaves the other lines unchanged.
abbrev pub Begins : ℕ → Line → (ListedLine → List Line) → Type 0
Begins place line change = (listed : ListedLine) → (listed.position == place) ≡ true → (rest : List Line) × (change listed ≡ line ∷ rest)

abbrev pub Keeps : ℕ → (ListedLine → List Line) → Type 0
Keeps place change =
    (listed : ListedLine) → (listed.position == place) ≡ false → is_final_end listed.line ≡ false → change listed ≡ listed.line ∷ []

pub inserted_begins : (line : Line) (place : ℕ) → Begins place line (with_inserted line place)
inserted_begins line place listed here = (own_line listed, rw here refl)

pub inserted_keeps : (line : Line) (place : ℕ) → Keeps place (with_inserted line place)
inserted_keeps line place listed other running = rw (other, running) refl

pub replaced_begins : (line : Line) (place : ℕ) → Begins place line (with_replaced line place)
replaced_begins line place listed here = ([], rw here refl)

pub replaced_keeps : (line : Line) (place : ℕ) → Keeps place (with_replaced line place)
replaced_keeps line place listed other running = rw (other, running) refl

module _ (bytes : List ℕ) (final place : ℕ) where
  in_rest : (first : ListedLine) (rest : List ListedLine) → has_line_at place (first ∷ rest) ≡ true → (first.position == place) ≡ false
      → has_line_at place rest ≡ true
  in_rest first rest has other = subst (λ (b : Bool). (b || has_line_at place rest) ≡ true) other has

  not_none : (rest : List ListedLine) → rest ≡ [] → has_line_at place rest ≡ true → ⊥
  not_none rest none has = true≢false (sym has ∙ ap (has_line_at place) none)

  -- No line of a list precedes the position from which it is read.
  has_from : (at : ℕ) (lines : List ListedLine) → Reads bytes final at lines → has_line_at place lines ≡ true → at ≤ place
  has_from at [] reads has = absurd (not_none [] refl has)
  has_from at (first ∷ rest) reads has =
      let from = reads.0.from in
      elim (cases_Bool (first.position == place)) [
        | inl here ↦ let same = same_of first.position place here in omega (arith, from, same)
        | inr other ↦ elim (cases_Bool (is_final_end first.line)) [
          | inl last ↦
              absurd (not_none rest (last_rest bytes final (behind first) (is_final_end first.line) rest last reads.1)
              (in_rest first rest has other))
          | inr running ↦
              let onward =
              has_from (behind first) rest (more_rest bytes final (behind first) (is_final_end first.line) rest running reads.1)
              (in_rest first rest has other) in
              omega (arith, from, onward)
        ]
      ]

  -- As many lines precede the new line.
  pub new_there : (line : Line) (change : ListedLine → List Line) → Begins place line change → Keeps place change
      → (at : ℕ) (lines : List ListedLine) → Reads bytes final at lines → has_line_at place lines ≡ true
      → slice_get (flat_map change lines) (count_before place lines) ≡ Some line
  new_there line change begins keeps at [] reads has = absurd (not_none [] refl has)
  new_there line change begins keeps at (first ∷ rest) reads has = elim (cases_Bool (first.position == place)) [
    | inl here ↦
        let same = same_of first.position place here in
        let none =
        none_before bytes final place first.position (first ∷ rest)
        (λ next is. let from = is.from in omega (arith, same, from)) (own_reads bytes final at first rest reads) in
        ap (slice_get (flat_map change (first ∷ rest))) none
        ∙ ap (λ (l : List Line). slice_get (l ++ flat_map change rest) 0) (begins first here).1
    | inr other ↦ elim (cases_Bool (is_final_end first.line)) [
      | inl last ↦
          absurd
          (not_none rest (last_rest bytes final (behind first) (is_final_end first.line) rest last reads.1) (in_rest first rest has other))
      | inr running ↦
          let more = more_rest bytes final (behind first) (is_final_end first.line) rest running reads.1 in
          let onward = has_from (behind first) rest more (in_rest first rest has other) in
          let apart = other_of first.position place other in
          let below : first.position < place = omega (arith, onward, apart) in
          ap (slice_get (flat_map change (first ∷ rest))) (count_cons place first rest below)
          ∙ ap (λ (l : List Line). slice_get (l ++ flat_map change rest) (suc (count_before place rest))) (keeps first other running)
          ∙ new_there line change begins keeps (behind first) rest more (in_rest first rest has other)
    ]
  ]

-- A line of the list begins at its own position.
module _ (bytes : List ℕ) (final : ℕ) where
  pub get_first : (at : ℕ) (lines : List ListedLine) (count : ℕ) (found : ListedLine) → Reads bytes final at lines
      → slice_get lines count ≡ Some found → FirstFrom bytes final found.position found
  get_first at [] count found reads is = absurd (none-some found is)
  get_first at (first ∷ rest) zero found reads is = search (rules, own_reads, last_rest, more_rest)
  get_first at (first ∷ rest) (suc count) found reads is = elim (cases_Bool (is_final_end first.line)) [
    | inl last ↦
        let none = last_rest bytes final (behind first) (is_final_end first.line) rest last reads.1 in
        absurd (none-some found (sym (ap (λ (l : List ListedLine). slice_get l count) none) ∙ is))
    | inr running ↦
        get_first (behind first) rest count found (more_rest bytes final (behind first) (is_final_end first.line) rest running reads.1) is
  ]
