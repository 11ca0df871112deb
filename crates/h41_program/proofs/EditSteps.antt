-- Changing the list line by line.
use Rattle.std.proofs.Common.{◌≡◌, ℕ, Bool, true, false, List, [], ◌∷◌, ◌++◌, refl, sym, ◌∙◌, ap, subst, inl, inr, append-nil, append_assoc}
use Rattle.std.proofs.Common.{Result, Ok, Err, rules}
use Rattle.std.specs.Prelude.{◌&&◌, ◌||◌, ◌==◌, is_some, IsOkAnd, MatchBool, if◌then◌else◌}
use Rattle.std.specs.List.{flat_map}
use Rattle.std.proofs.lemmas.Grind.{flat_map-append}
use Rattle.std.proofs.lemmas.List.Folds.{list_any-append}
use Rattle.h41_codes.specs.declared.line.Line.{Line}
use Rattle.h41_ram.specs.RegisterMap.{RegisterMap}
use Rattle.h41_program.specs.declared.editing.Change.{Change}
use Rattle.h41_program.specs.declared.editing.Change.TheVariants.{Delete, Put}
use Rattle.h41_program.specs.declared.editing.Placement.TheVariants.{Before, Instead}
use Rattle.h41_program.specs.declared.listed_line.ListedLine.{ListedLine}
use Rattle.h41_program.specs.declared.packer.Packer.{Packer}
use Rattle.h41_program.specs.declared.refusal.ProgramRefusal.{ProgramRefusal}
use Rattle.h41_program.specs.declared.refusal.ProgramRefusal.TheVariants.{BrokenProgram}
use Rattle.h41_program.specs.Edits.{before_end, has_line_at, own_line, memory_with_answer, changed_outcome, without_answer, edit_outcome}
use Rattle.h41_program.specs.Edits.{Edits}
use Rattle.h41_program.specs.private.EditSteps.{PacksChanged, Writes, lines_of_change, is_kept, new_part}
use Rattle.h41_program.specs.Lines.{is_final_end}
use Rattle.h41_program.specs.private.Packers.{Packs, line_if}
use Rattle.h41_program.specs.ProgramBytes.{final_position, program_bytes}
use Rattle.h41_program.specs.FirstLines.{FirstFrom, IsFirst, NoneFrom}
use Rattle.h41_program.specs.ProgramLines.{HasNoLine, Reads}
use Rattle.h41_program.specs.Rewriting.{HasOutcome, with_program_lines}
use Rattle.h41_program.proofs.Walks.{UpTo, ends_none, ends_final, before_end-none, before_end-final}

pub has_line_at-more : (place : ℕ) (before : List ListedLine) (listed : ListedLine)
    → has_line_at place (before ++ listed ∷ []) ≡ (has_line_at place before || (listed.position == place))
has_line_at-more place before listed = search (rules, list_any-append)

pub changed-more : (change : ListedLine → List Line) (before : List ListedLine) (listed : ListedLine)
    → flat_map change (before ++ listed ∷ []) ≡ flat_map change before ++ change listed
changed-more change before listed =
    flat_map-append change before (listed ∷ []) ∙ ap (λ (l : List Line). flat_map change before ++ l) (append-nil (change listed))

-- The lines after a change at a line, which is the one to be changed or not.
abbrev made : Change → Bool → ListedLine → List Line
made (Put line Before) here listed = (if here then line ∷ [] else []) ++ own_line listed
made (Put line Instead) here listed = if here then line ∷ [] else own_line listed
made Delete here listed = if here then [] else own_line listed

made_other : (change : Change) (here : Bool) (listed : ListedLine) → is_final_end listed.line ≡ false
    → new_part here change ++ line_if (is_kept here change) listed.line ≡ made change here listed
made_other change here listed other = search rules

made_final : (change : Change) (here : Bool) (listed : ListedLine) → is_final_end listed.line ≡ true
    → new_part here change ≡ made change here listed
made_final change here listed final = search rules

-- One more line, and .END.
pub one_packs : (packer : Packer) (change : Change) (place : ℕ) (before : List ListedLine) (listed : ListedLine) (here kept : Bool)
    → here ≡ (listed.position == place) → kept ≡ is_kept here change → is_final_end listed.line ≡ false
    → Packs packer ((flat_map (lines_of_change change place) before ++ new_part here change) ++ line_if kept listed.line)
    → Packs packer (flat_map (lines_of_change change place) (before ++ listed ∷ []))
one_packs packer change place before listed here kept is keeps other packs = search (rules, append_assoc, made_other, changed-more)

pub last_packs : (packer : Packer) (change : Change) (place : ℕ) (before : List ListedLine) (listed : ListedLine) (here : Bool)
    → here ≡ (listed.position == place) → is_final_end listed.line ≡ true
    → Packs packer (flat_map (lines_of_change change place) before ++ new_part here change)
    → Packs packer (flat_map (lines_of_change change place) (before ++ listed ∷ []))
last_packs packer change place before listed here is final packs = search (rules, made_final, changed-more)

-- The list was read so far, and each line changed.
pub record Changed (bytes : List ℕ) (final : ℕ) (packer : Packer) (met : Bool)
    (change : ListedLine → List Line) (place at : ℕ) (before : List ListedLine) : Type 0 where
  pub read : UpTo bytes final 0 before at
  pub packs : Packs packer (flat_map change before)
  pub found : met ≡ has_line_at place before

-- The outcome of the test.
by_test : (b : Bool) (packer : Packer) (lines : List Line) → Packs packer lines
    → MatchBool b (IsOkAnd {E = ProgramRefusal} (if b then Ok packer else Err BrokenProgram) (λ held. Packs held lines))
    (◌≡◌ {A = Result Packer ProgramRefusal} (if b then Ok packer else Err BrokenProgram) (Err BrokenProgram))
by_test true packer lines packs = packs
by_test false packer lines packs = refl

-- .END. is reached.
pub changed_final : (bytes : List ℕ) (final at next : ℕ) (packer : Packer) (met : Bool)
    (change : ListedLine → List Line) (place : ℕ) (before lines : List ListedLine) (listed : ListedLine)
    → UpTo bytes final 0 before at → IsFirst bytes final at listed next → is_final_end listed.line ≡ true
    → Packs packer (flat_map change (before ++ listed ∷ [])) → met ≡ has_line_at place (before ++ listed ∷ []) → Reads bytes final 0 lines
    → (result : Result Packer ProgramRefusal) → result ≡ (if met then Ok packer else Err BrokenProgram)
    → MatchBool (is_some (before_end lines) && has_line_at place lines)
    (IsOkAnd result (λ held. Packs held (flat_map change lines))) (result ≡ Err BrokenProgram)
changed_final bytes final at next packer met change place before lines listed upto is last packs found reads result test =
    let all = ends_final bytes final 0 at next before lines listed upto is last reads in
    let end = before_end-final bytes final 0 at before listed upto last in
    rw (all, end, test, found) (by_test (has_line_at place (before ++ listed ∷ [])) packer (flat_map change (before ++ listed ∷ [])) packs)

-- There is no further line.
pub changed_none : (bytes : List ℕ) (final at : ℕ) (change : ListedLine → List Line) (place : ℕ) (before lines : List ListedLine)
    → UpTo bytes final 0 before at → NoneFrom bytes final at → Reads bytes final 0 lines
    → MatchBool (is_some (before_end lines) && has_line_at place lines)
    (IsOkAnd {E = ProgramRefusal} (Err BrokenProgram) (λ held. Packs held (flat_map change lines)))
    (◌≡◌ {A = Result Packer ProgramRefusal} (Err BrokenProgram) (Err BrokenProgram))
changed_none bytes final at change place before lines upto none reads = search (rules, ends_none, before_end-none)

-- The changed lines are written.
pub changed_written : (old new : RegisterMap) (change : ListedLine → List Line) (place : ℕ) (lines : List ListedLine)
    (result : Result Packer ProgramRefusal) (packer : Packer) (wrote : Result (Unit {0}) ProgramRefusal) (b : Bool)
    → MatchBool b (IsOkAnd result (λ held. Packs held (flat_map change lines))) (result ≡ Err BrokenProgram) → result ≡ Ok packer
    → ((all : List Line) → Packs packer all → HasOutcome old new wrote (memory_with_answer tt (with_program_lines old all)))
    → HasOutcome old new wrote (changed_outcome b old (flat_map change lines))
changed_written old new change place lines result packer wrote b matches ok writes = search rules

pub changed_refused : (old : RegisterMap) (change : ListedLine → List Line) (lines : List ListedLine)
    (result : Result Packer ProgramRefusal) (refusal : ProgramRefusal) (b : Bool)
    → MatchBool b (IsOkAnd result (λ held. Packs held (flat_map change lines))) (result ≡ Err BrokenProgram) → result ≡ Err refusal
    → HasOutcome {A = Unit {0}} old old (Err refusal) (changed_outcome b old (flat_map change lines))
changed_refused old change lines result refusal b matches err = search rules

-- The list is changed, or not.
module _ (old : RegisterMap) (change : ℕ → ListedLine → List Line) (at : ℕ) where
  pub edit_none : HasNoLine old at → Edits old old change at (Err BrokenProgram)
  edit_none none = (Err BrokenProgram, inr (none, refl), (refl, refl))

  module _ (first : ListedLine) (stands : FirstFrom (program_bytes old) (final_position old) at first)
      (packed : Result Packer ProgramRefusal)
      (packs : PacksChanged old (change first.position) first.position packed) where
    abbrev reached : Bool
    reached = is_some (before_end packs.0) && has_line_at first.position packs.0

    pub edit_refused : (result : Result ℕ ProgramRefusal) (refusal : ProgramRefusal) → packed ≡ Err refusal → result ≡ Err refusal
        → Edits old old change at (without_answer result)
    edit_refused result refusal err is = (
      edit_outcome old (change first.position) first.position packs.0,
      inl (first, stands, (packs.0, packs.1, refl)),
      subst (λ (r : Result (Unit {0}) ProgramRefusal).
          HasOutcome old old r (changed_outcome reached old (flat_map (change first.position) packs.0)))
          (sym (ap without_answer is))
          (changed_refused old (change first.position) packs.0 packed refusal reached packs.2 err),
    )

    pub edit_written : (new : RegisterMap) (packer : Packer) (wrote result : Result (Unit {0}) ProgramRefusal) → packed ≡ Ok packer
        → Writes packer old new wrote → wrote ≡ result → Edits old new change at result
    edit_written new packer wrote result ok writes is = (
      edit_outcome old (change first.position) first.position packs.0,
      inl (first, stands, (packs.0, packs.1, refl)),
      subst (λ (r : Result (Unit {0}) ProgramRefusal).
          HasOutcome old new r (changed_outcome reached old (flat_map (change first.position) packs.0)))
          is
          (changed_written old new (change first.position) first.position packs.0 packed packer wrote reached packs.2 ok writes),
    )
