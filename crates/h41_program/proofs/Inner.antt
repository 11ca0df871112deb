-- Inner lines, which programs can contain.
use Rattle.std.proofs.Common.{◌≢◌, ◌≡◌, ℕ, Bool, true, false, List, [], ◌∷◌, ◌++◌, refl, sym, ◌∙◌, ap, subst, arith, inl, inr, All, Option}
use Rattle.std.proofs.Common.{Some, None, rules}
use Rattle.std.specs.Prelude.{if◌then◌else◌, ◌==◌}
use Rattle.std.specs.Option.{option_map}
use Rattle.std.proofs.lemmas.Bool.{cases_Bool, true≢false}
use Rattle.std.proofs.lemmas.List.Elements.{All-nil, All-cons, All-append}
use Rattle.std.specs.List.{flat_map}
use Rattle.h41_codes.specs.ByteGrammar.{IsLine}
use Rattle.h41_codes.specs.declared.line.Line.{Line}
use Rattle.h41_codes.specs.declared.line.Line.TheVariants.{End, FinalEnd, Null}
use Rattle.h41_program.specs.declared.listed_line.ListedLine.{ListedLine}
use Rattle.h41_program.specs.Edits.{own_line, with_inserted, with_replaced, without_deleted, lines_of, before_end, with_last_end, is_open}
use Rattle.h41_program.specs.Edits.{without_end}
use Rattle.h41_program.specs.Lines.{is_final_end, is_inner}
use Rattle.h41_program.specs.ProgramLaws.{IsInner}
use Rattle.h41_program.specs.FirstLines.{FirstFrom, behind}
use Rattle.h41_program.specs.ProgramLines.{Reads}
use Rattle.h41_program.proofs.Walks.{more_rest, last_rest}
use Rattle.h41_program.proofs.Cases.{not_empty}
use Rattle.std.proofs.lemmas.Option.{none-some, same_Some}

-- A line by its kind.
inner_kind : (line : Line) → line ≢ Null → is_final_end line ≡ false → is_inner line ≡ true
inner_kind line some other = search rules

pub not_null : (line : Line) → is_inner line ≡ true → line ≢ Null
not_null line is same = true≢false (sym is ∙ ap is_inner same)

pub not_final : (line : Line) → is_inner line ≡ true → is_final_end line ≡ false
not_final (FinalEnd link marks) is = sym is
not_final line is = refl

-- A line that is read is inner if it is not .END.
pub read_inner : (bytes : List ℕ) (final at : ℕ) (first : ListedLine) → FirstFrom bytes final at first → is_final_end first.line ≡ false
    → IsInner first.line
read_inner bytes final at first is other = record { valid = is.begins.spells.valid; inner = inner_kind first.line is.not_null other }

-- The lines before .END. are inner.
module _ (bytes : List ℕ) (final : ℕ) where
  pub before_inner : (at : ℕ) (lines before : List ListedLine) → Reads bytes final at lines → before_end lines ≡ Some before
      → All IsInner (lines_of before)
  before_inner at [] before reads own = absurd (none-some before own)
  before_inner at (first ∷ rest) before reads own = elim (cases_Bool (is_final_end first.line)) [
    | inl last ↦
        let none : before_end (first ∷ rest) ≡ Some [] = rw last refl in
        subst (λ (l : List ListedLine). All IsInner (lines_of l)) (same_Some [] before (sym none ∙ own)) (All-nil IsInner)
    | inr other ↦
        let more : before_end (first ∷ rest) ≡ option_map (λ lines. first ∷ lines) (before_end rest) = rw other refl in
        by_rest (before_end rest) first before (read_inner bytes final at first reads.0 other)
        (λ found is.
        before_inner (behind first) rest found (more_rest bytes final (behind first) (is_final_end first.line) rest other reads.1) is)
        (sym more ∙ own)
  ]
    where
      by_rest : (o : Option (List ListedLine)) (first : ListedLine) (before : List ListedLine) → IsInner first.line
          → ((found : List ListedLine) → o ≡ Some found → All IsInner (lines_of found))
          → option_map (λ lines. first ∷ lines) o ≡ Some before → All IsInner (lines_of before)
      by_rest None first before inner each own = absurd (none-some before own)
      by_rest (Some found) first before inner each own =
          subst (λ (l : List ListedLine). All IsInner (lines_of l)) (same_Some (first ∷ found) before own)
          (All-cons IsInner first.line (lines_of found) inner (each found refl))

  -- The lines that are loaded are inner.
  pub loaded_inner : (at : ℕ) (given : List ListedLine) → Reads bytes final at given → All IsInner (without_end (lines_of given))
  loaded_inner at [] reads = All-nil IsInner
  loaded_inner at (first ∷ []) reads = search (rules, read_inner, last_rest, more_rest)
  loaded_inner at (first ∷ second ∷ rest) reads = elim (cases_Bool (is_final_end first.line)) [
    | inl last ↦
        absurd (not_empty second rest (last_rest bytes final (behind first) (is_final_end first.line) (second ∷ rest) last reads.1))
    | inr other ↦
        All-cons IsInner first.line (without_end (lines_of (second ∷ rest))) (read_inner bytes final at first reads.0 other)
        (loaded_inner (behind first) (second ∷ rest)
        (more_rest bytes final (behind first) (is_final_end first.line) (second ∷ rest) other reads.1))
  ]

-- An END is inner.
end_inner : IsInner (End 0 0)
end_inner = record { valid = (omega arith, omega arith); inner = refl }

pub closed_inner : (lines : List Line) → All IsInner lines → All IsInner (with_last_end lines)
closed_inner lines inner = chosen (is_open lines)
  where
    chosen : (b : Bool) → All IsInner (if b then lines ++ End 0 0 ∷ [] else lines)
    chosen true = All-append IsInner lines (End 0 0 ∷ []) inner (All-cons IsInner (End 0 0) [] end_inner (All-nil IsInner))
    chosen false = inner

-- A line that passes the test is inner.
pub inner_line : (line : Line) → is_inner line ≡ true → IsLine line → IsInner line
inner_line line is valid = record { valid = valid; inner = is }

-- A change of a list makes only inner lines of its lines.
abbrev pub KeepsInner : (ListedLine → List Line) → Type 0
KeepsInner change = (listed : ListedLine) → IsLine listed.line → listed.line ≢ Null → All IsInner (change listed)

own_inner : (listed : ListedLine) → IsLine listed.line → listed.line ≢ Null → All IsInner (own_line listed)
own_inner listed valid some = search (rules, inner_kind)

chosen_inner : (b : Bool) (line : Line) (others : List Line) → IsInner line → All IsInner others
    → All IsInner (if b then line ∷ [] else others)
chosen_inner true line others inner all = All-cons IsInner line [] inner (All-nil IsInner)
chosen_inner false line others inner all = all

left_inner : (b : Bool) (others : List Line) → All IsInner others → All IsInner (if b then [] else others)
left_inner true others all = All-nil IsInner
left_inner false others all = all

pub inserted_inner : (line : Line) (position : ℕ) → IsInner line → KeepsInner (with_inserted line position)
inserted_inner line position inner listed valid some =
    All-append IsInner (if listed.position == position then line ∷ [] else []) (own_line listed)
    (chosen_inner (listed.position == position) line [] inner (All-nil IsInner)) (own_inner listed valid some)

pub replaced_inner : (line : Line) (position : ℕ) → IsInner line → KeepsInner (with_replaced line position)
replaced_inner line position inner listed valid some =
    chosen_inner (listed.position == position) line (own_line listed) inner (own_inner listed valid some)

pub deleted_inner : (position : ℕ) → KeepsInner (without_deleted position)
deleted_inner position listed valid some = left_inner (listed.position == position) (own_line listed) (own_inner listed valid some)

pub changed_inner : (bytes : List ℕ) (final : ℕ) (change : ListedLine → List Line) → KeepsInner change → (at : ℕ) (lines : List ListedLine)
    → Reads bytes final at lines → All IsInner (flat_map change lines)
changed_inner bytes final change keeps at [] reads = All-nil IsInner
changed_inner bytes final change keeps at (first ∷ rest) reads =
    All-append IsInner (change first) (flat_map change rest) (keeps first reads.0.begins.spells.valid reads.0.not_null)
    (elim (cases_Bool (is_final_end first.line)) [
      | inl last ↦
          let none = last_rest bytes final (behind first) (is_final_end first.line) rest last reads.1 in
          subst (λ (l : List ListedLine). All IsInner (flat_map change l)) (sym none) (All-nil IsInner)
      | inr other ↦
          changed_inner bytes final change keeps (behind first) rest
          (more_rest bytes final (behind first) (is_final_end first.line) rest other reads.1)
    ])
