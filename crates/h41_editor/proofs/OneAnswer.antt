-- The line at a position, each move and each change have one outcome.
use Rattle.std.proofs.Common.{◌≡◌, ℕ, Bool, true, false, List, Option, Some, None, Result, Ok, Err, sym, ap, ◌∙◌, subst}
use Rattle.std.specs.Prelude.{MatchBool}
use Rattle.std.specs.Option.{option_map}
use Rattle.h41_codes.specs.declared.line.Line.{Line}
use Rattle.h41_editor.specs.Changes.{Changed, Deletes, DeletesAt, DeletesLine, Inserts, InsertsBefore, InsertsBy, Replaces, ReplacesAt}
use Rattle.h41_editor.specs.Changes.{ShowsFront, ShowsNew, showing_line, shown_in_front}
use Rattle.h41_editor.specs.EditorLaws.{ChangeIsDetermined, MoveIsDetermined, NumberedIsDetermined, TextIsDetermined}
use Rattle.h41_editor.specs.Moves.{EndsBy, GoesToEnd, ShowsAfterLine, ShowsAt, ShowsBefore, ShowsBeforeLine, ShowsEnd, ShowsInFront}
use Rattle.h41_editor.specs.Moves.{ShowsNext, ShowsStart, is_last, returns_kept, shown_end}
use Rattle.h41_editor.specs.NumberedLines.{Numbers, with_number}
use Rattle.h41_editor.specs.ProgramText.{ShowsLine, line_00_text, text_of, unknown_text}
use Rattle.h41_editor.specs.declared.numbered.NumberedLine.{NumberedLine}
use Rattle.h41_positions.specs.FocalState.{Machine, at_line_00, at_line}
use Rattle.h41_pages.specs.PageMap.{PageMap}
use Rattle.h41_program.specs.Edits.{EditGives, PlacesAreDetermined, before_end, close_behind, position_behind, position_in_front}
use Rattle.h41_program.specs.Edits.{with_inserted, with_replaced, without_deleted}
use Rattle.h41_program.specs.LastProgram.{open_in}
use Rattle.h41_program.specs.Lines.{is_final_end}
use Rattle.h41_program.specs.ProgramBytes.{final_position}
use Rattle.h41_program.specs.ProgramLaws.{EditsAreDetermined, ListsAreDetermined}
use Rattle.h41_program.specs.SearchLaws.{AnswersAreDetermined}
use Rattle.h41_program.specs.Searches.{start_in}
use Rattle.h41_positions.proofs.OneNext.{same_next}
use Rattle.h41_positions.specs.PositionLaws.{HasOneAnswer, IsReadOnce}
use Rattle.h41_positions.specs.Positions.{EndOf, LineAt, LineBefore, NextAt, NumberAt, StartOf}
use Rattle.h41_program.specs.declared.editing.InFront.{InFront}
use Rattle.h41_program.specs.declared.listed_line.ListedLine.{ListedLine}
use Rattle.h41_positions.specs.declared.position.PlacedLine.{PlacedLine}
use Rattle.h41_positions.specs.declared.position.Position.{Position}
use Rattle.h41_positions.specs.declared.position.Position.TheVariants.{Memory, Page}
use Rattle.h41_program.specs.declared.refusal.ProgramRefusal.{ProgramRefusal}
use Rattle.h41_ram.specs.RegisterMap.{RegisterMap, is_sound}

-- The outcome of a key: the machine after it, or a refusal.
abbrev Moved : Type 0
Moved = Result Machine ProgramRefusal

-- The next line is shown.
abbrev GoesOn : PageMap → Machine → Moved → Type 0
GoesOn pages machine moved = (next : Position) × NextAt pages machine.memory machine.focal.position (Ok next)
    × (moved ≡ Ok (at_line next machine))

-- A fact about the line at the position, or about there being none.
abbrev ByFirst : PageMap → Machine → (Result PlacedLine ProgramRefusal → Type 0) → Type 0
ByFirst pages machine holds = (first : Result PlacedLine ProgramRefusal) × LineAt pages machine.memory machine.focal.position first
    × holds first

-- Line 00, given that each program has one start.
module _ (same_start : HasOneAnswer StartOf) where
  same_shown_start : (pages : PageMap) (machine : Machine) (a b : Moved) → ShowsStart pages machine a → ShowsStart pages machine b → a ≡ b
  same_shown_start pages machine a b p q =
      let same = same_start pages machine.memory machine.focal.position p.0 q.0 p.1 q.1 in
      p.2 ∙ ap (λ (start : Position). Ok (record machine { focal = at_line_00 start machine.focal })) same ∙ sym q.2

-- The line at a position and its text, given also that each line has one number.
module _ (once : IsReadOnce) (same_one : HasOneAnswer NumberAt) where
  same_number : (pages : PageMap) (memory : RegisterMap) (first : Result PlacedLine ProgramRefusal) (a b : Option NumberedLine)
      → Numbers pages memory first a → Numbers pages memory first b → a ≡ b
  same_number pages memory (Ok first) a b p q =
      let same = same_one pages memory first.position p.0 q.0 p.1 q.1 in
      p.2 ∙ ap (λ (number : Option ℕ). option_map (with_number first) number) same ∙ sym q.2
  same_number pages memory (Err refusal) a b p q = p ∙ sym q

  pub numbered_determined : NumberedIsDetermined
  numbered_determined pages memory at a b p q =
      let same = once.line pages memory at p.0 q.0 p.1 q.1 in
      same_number pages memory q.0 a b (subst (λ (first : Result PlacedLine ProgramRefusal). Numbers pages memory first a) same p.2) q.2

  same_shown : (pages : PageMap) (machine : Machine) (a b : List ℕ) → ShowsLine pages machine a → ShowsLine pages machine b → a ≡ b
  same_shown pages machine a b p q =
      p.2 ∙ ap text_of (numbered_determined pages machine.memory machine.focal.position p.0 q.0 p.1 q.1) ∙ sym q.2

  same_in_sound : (pages : PageMap) (at_line_00 : Bool) (machine : Machine) (a b : List ℕ)
      → MatchBool at_line_00 (a ≡ line_00_text machine.memory) (ShowsLine pages machine a)
      → MatchBool at_line_00 (b ≡ line_00_text machine.memory) (ShowsLine pages machine b) → a ≡ b
  same_in_sound pages true machine a b p q = p ∙ sym q
  same_in_sound pages false machine a b p q = same_shown pages machine a b p q

  same_text : (pages : PageMap) (sound : Bool) (machine : Machine) (a b : List ℕ)
      → MatchBool sound (MatchBool machine.focal.at_line_00 (a ≡ line_00_text machine.memory) (ShowsLine pages machine a))
      (a ≡ unknown_text)
      → MatchBool sound (MatchBool machine.focal.at_line_00 (b ≡ line_00_text machine.memory) (ShowsLine pages machine b))
      (b ≡ unknown_text)
      → a ≡ b
  same_text pages true machine a b p q = same_in_sound pages machine.focal.at_line_00 machine a b p q
  same_text pages false machine a b p q = p ∙ sym q

  pub text_determined : TextIsDetermined
  text_determined pages machine a b p q = same_text pages (is_sound machine.memory) machine a b p q

-- SST has one outcome.
module _ (once : IsReadOnce) (same_start : HasOneAnswer StartOf) where
  same_onward : (pages : PageMap) (last : Bool) (machine : Machine) (a b : Moved)
      → MatchBool last (ShowsStart pages machine a) (GoesOn pages machine a)
      → MatchBool last (ShowsStart pages machine b) (GoesOn pages machine b) → a ≡ b
  same_onward pages true machine a b p q = same_shown_start same_start pages machine a b p q
  same_onward pages false machine a b p q =
      let same = same_next once pages machine.memory machine.focal.position p.0 q.0 p.1 q.1 in
      p.2 ∙ ap (λ (next : Position). Ok (at_line next machine)) same ∙ sym q.2

  same_shown_behind : (pages : PageMap) (machine : Machine) (first : Result PlacedLine ProgramRefusal) (a b : Moved)
      → ShowsAfterLine pages machine first a → ShowsAfterLine pages machine first b → a ≡ b
  same_shown_behind pages machine (Ok first) a b p q = same_onward pages (is_last first) machine a b p q
  same_shown_behind pages machine (Err refusal) a b p q = p ∙ sym q

  same_step : (pages : PageMap) (at_line_00 : Bool) (machine : Machine) (a b : Moved)
      → MatchBool at_line_00 (a ≡ Ok (at_line machine.focal.position machine))
      (ByFirst pages machine (λ first. ShowsAfterLine pages machine first a))
      → MatchBool at_line_00 (b ≡ Ok (at_line machine.focal.position machine))
      (ByFirst pages machine (λ first. ShowsAfterLine pages machine first b))
      → a ≡ b
  same_step pages true machine a b p q = p ∙ sym q
  same_step pages false machine a b p q =
      let same = once.line pages machine.memory machine.focal.position p.0 q.0 p.1 q.1 in
      same_shown_behind pages machine q.0 a b
      (subst (λ (first : Result PlacedLine ProgramRefusal). ShowsAfterLine pages machine first a) same p.2) q.2

  pub next_determined : (pages : PageMap) → MoveIsDetermined (ShowsNext pages)
  next_determined pages machine a b p q = same_step pages machine.focal.at_line_00 machine a b p q

-- BST has one outcome.
module _
    (once : IsReadOnce)
    (same_start : HasOneAnswer StartOf)
    (same_ends : HasOneAnswer EndOf)
    (same_prior : HasOneAnswer LineBefore)
    (same_one : HasOneAnswer NumberAt) where
  same_shown_end : (pages : PageMap) (machine : Machine) (first : PlacedLine) (a b : Moved) → ShowsEnd pages machine first a
      → ShowsEnd pages machine first b → a ≡ b
  same_shown_end pages machine first a b p q =
      p.2 ∙ ap (shown_end machine) (same_ends pages machine.memory first.position p.0 q.0 p.1 q.1) ∙ sym q.2

  same_shown_at : (pages : PageMap) (machine : Machine) (before : Option Position) (a b : Moved) → ShowsAt pages machine before a
      → ShowsAt pages machine before b → a ≡ b
  same_shown_at pages machine (Some position) a b p q = p ∙ sym q
  same_shown_at pages machine None a b p q = same_shown_start same_start pages machine a b p q

  same_in_front : (pages : PageMap) (machine : Machine) (first : PlacedLine) (a b : Moved) → ShowsInFront pages machine first a
      → ShowsInFront pages machine first b
      → a ≡ b
  same_in_front pages machine first a b p q =
      let same = same_prior pages machine.memory first.position p.0 q.0 p.1 q.1 in
      same_shown_at pages machine q.0 a b (subst (λ (before : Option Position). ShowsAt pages machine before a) same p.2) q.2

  same_back : (pages : PageMap) (at_line_00 : Bool) (machine : Machine) (first : PlacedLine) (a b : Moved)
      → MatchBool at_line_00 (ShowsEnd pages machine first a) (ShowsInFront pages machine first a)
      → MatchBool at_line_00 (ShowsEnd pages machine first b) (ShowsInFront pages machine first b) → a ≡ b
  same_back pages true machine first a b p q = same_shown_end pages machine first a b p q
  same_back pages false machine first a b p q = same_in_front pages machine first a b p q

  same_before_line : (pages : PageMap) (machine : Machine) (numbered : Option NumberedLine) (a b : Moved)
      → ShowsBeforeLine pages machine numbered a → ShowsBeforeLine pages machine numbered b → a ≡ b
  same_before_line pages machine (Some numbered) a b p q = same_back pages machine.focal.at_line_00 machine numbered.placed a b p q
  same_before_line pages machine None a b p q = p ∙ sym q

  pub before_determined : (pages : PageMap) → MoveIsDetermined (ShowsBefore pages)
  before_determined pages machine a b p q =
      let same = numbered_determined once same_one pages machine.memory machine.focal.position p.0 q.0 p.1 q.1 in
      same_before_line pages machine q.0 a b (subst (λ (numbered : Option NumberedLine). ShowsBeforeLine pages machine numbered a) same p.2)
      q.2

-- `GTO . .` has one outcome.
module _ (same_lines : ListsAreDetermined) (same_start : AnswersAreDetermined ℕ) where
  same_end : (machine : Machine) (lines : List ListedLine) (closed : Changed) (a b : Moved)
      → EndsBy machine lines closed a → EndsBy machine lines closed b → a ≡ b
  same_end machine lines (Ok closed) a b p q =
      let same = same_start closed.0 (start_in (final_position closed.0)) 0 p.0 q.0 p.1 q.1 in
      p.2
      ∙ ap
      (λ (start : ℕ). Ok (record {
        memory = closed.0;
        focal = record machine.focal {
          position = Memory start;
          at_line_00 = true;
          returns = returns_kept (open_in lines) machine.focal.returns;
        };
      }))
      same
      ∙ sym q.2
  same_end machine lines (Err refusal) a b p q = p ∙ sym q

  pub end_determined : MoveIsDetermined GoesToEnd
  end_determined machine a b p q =
      let same = same_lines machine.memory 0 p.0 q.0 p.1 q.1 in
      same_end machine q.0 (close_behind machine.memory (before_end q.0)) a b
      (subst (λ (lines : List ListedLine). EndsBy machine lines (close_behind machine.memory (before_end lines)) a) same p.2) q.2

-- A new line is shown at one position.
module _ (same_edit : EditsAreDetermined) (same_place : PlacesAreDetermined (Option ℕ)) where
  same_position : (position other : ℕ) → Some position ≡ Some other → position ≡ other
  same_position position other is = cc

  same_new : (machine : Machine) (at : ℕ) (changed : Changed) (a b : Moved) → ShowsNew machine at changed a → ShowsNew machine at changed b
      → a ≡ b
  same_new machine at (Ok changed) a b p q =
      let same = same_place position_behind machine.memory at changed.0 (Some p.0) (Some q.0) p.1 q.1 in
      p.2 ∙ ap (λ (position : ℕ). Ok (showing_line machine changed.0 position)) (same_position p.0 q.0 same) ∙ sym q.2
  same_new machine at (Err refusal) a b p q = p ∙ sym q

  same_replaced : (line : Line) (machine : Machine) (at : Position) (a b : Moved) → ReplacesAt line machine at a
      → ReplacesAt line machine at b → a ≡ b
  same_replaced line machine (Memory at) a b p q =
      let same = same_edit machine.memory (with_replaced line) at p.0 q.0 p.1 q.1 in
      same_new machine at q.0 a b (subst (λ (changed : Changed). ShowsNew machine at changed a) same p.2) q.2
  same_replaced line machine (Page address) a b p q = p ∙ sym q

  pub replacement_determined : ChangeIsDetermined Replaces
  replacement_determined line machine a b p q = same_replaced line machine machine.focal.position a b p q

  -- Inserting a line has one outcome.
  module _ (once : IsReadOnce) (same_start : HasOneAnswer StartOf) (same_one : HasOneAnswer NumberAt) where
    same_behind_shown : (pages : PageMap) (last : Bool) (machine : Machine) (shown : PlacedLine) (a b : Position)
        → MatchBool last (a ≡ shown.position) (NextAt pages machine.memory machine.focal.position (Ok a))
        → MatchBool last (b ≡ shown.position) (NextAt pages machine.memory machine.focal.position (Ok b)) → a ≡ b
    same_behind_shown pages true machine shown a b p q = p ∙ sym q
    same_behind_shown pages false machine shown a b p q = same_next once pages machine.memory machine.focal.position a b p q

    same_point : (pages : PageMap) (at_line_00 : Bool) (machine : Machine) (shown : PlacedLine) (a b : Position)
        → MatchBool at_line_00 (StartOf pages machine.memory machine.focal.position a)
        (MatchBool (is_last shown) (a ≡ shown.position) (NextAt pages machine.memory machine.focal.position (Ok a)))
        → MatchBool at_line_00 (StartOf pages machine.memory machine.focal.position b)
        (MatchBool (is_last shown) (b ≡ shown.position) (NextAt pages machine.memory machine.focal.position (Ok b))) → a ≡ b
    same_point pages true machine shown a b p q = same_start pages machine.memory machine.focal.position a b p q
    same_point pages false machine shown a b p q = same_behind_shown pages (is_last shown) machine shown a b p q

    same_insertion : (line : Line) (machine : Machine) (before : ℕ) (c d : Changed) (a b : Moved)
        → EditGives machine.memory (with_inserted line) before c → EditGives machine.memory (with_inserted line) before d
        → ShowsNew machine before c a → ShowsNew machine before d b → a ≡ b
    same_insertion line machine before c d a b p q shows again =
        let same = same_edit machine.memory (with_inserted line) before c d p q in
        same_new machine before d a b (subst (λ (changed : Changed). ShowsNew machine before changed a) same shows) again

    same_inserted_before : (line : Line) (machine : Machine) (before : Position) (a b : Moved) → InsertsBefore line machine before a
        → InsertsBefore line machine before b → a ≡ b
    same_inserted_before line machine (Memory before) a b p q =
        same_insertion line machine before p.0 q.0 a b p.1 q.1 p.2 q.2
    same_inserted_before line machine (Page address) a b p q = p ∙ sym q

    same_inserted : (pages : PageMap) (line : Line) (machine : Machine) (numbered : Option NumberedLine) (a b : Moved)
        → InsertsBy pages line machine numbered a → InsertsBy pages line machine numbered b → a ≡ b
    same_inserted pages line machine (Some numbered) a b p q =
        let same = same_point pages machine.focal.at_line_00 machine numbered.placed p.0 q.0 p.1 q.1 in
        same_inserted_before line machine q.0 a b (subst (λ (before : Position). InsertsBefore line machine before a) same p.2) q.2
    same_inserted pages line machine None a b p q = p ∙ sym q

    pub insertion_determined : (pages : PageMap) → ChangeIsDetermined (Inserts pages)
    insertion_determined pages line machine a b p q =
        let same = numbered_determined once same_one pages machine.memory machine.focal.position p.0 q.0 p.1 q.1 in
        same_inserted pages line machine q.0 a b (subst (λ (numbered : Option NumberedLine). InsertsBy pages line machine numbered a) same
        p.2) q.2

-- BACK has one outcome.
module _ (same_edit : EditsAreDetermined) (same_front : PlacesAreDetermined InFront) (once : IsReadOnce) where
  same_shown_front : (machine : Machine) (at : ℕ) (changed : Changed) (a b : Moved) → ShowsFront machine at changed a
      → ShowsFront machine at changed b → a ≡ b
  same_shown_front machine at (Ok changed) a b p q =
      let same = same_front position_in_front machine.memory at changed.0 p.0 q.0 p.1 q.1 in
      p.2 ∙ ap (λ (front : InFront). Ok (shown_in_front machine changed.0 front)) same ∙ sym q.2
  same_shown_front machine at (Err refusal) a b p q = p ∙ sym q

  same_taken : (machine : Machine) (at : Position) (a b : Moved) → DeletesAt machine at a → DeletesAt machine at b → a ≡ b
  same_taken machine (Memory at) a b p q =
      let same = same_edit machine.memory without_deleted at p.0 q.0 p.1 q.1 in
      same_shown_front machine at q.0 a b (subst (λ (changed : Changed). ShowsFront machine at changed a) same p.2) q.2
  same_taken machine (Page address) a b p q = p ∙ sym q

  same_unless_final : (final : Bool) (machine : Machine) (a b : Moved)
      → MatchBool final (a ≡ Ok machine) (DeletesAt machine machine.focal.position a)
      → MatchBool final (b ≡ Ok machine) (DeletesAt machine machine.focal.position b) → a ≡ b
  same_unless_final true machine a b p q = p ∙ sym q
  same_unless_final false machine a b p q = same_taken machine machine.focal.position a b p q

  same_deleted : (machine : Machine) (first : Result PlacedLine ProgramRefusal) (a b : Moved)
      → DeletesLine machine first a → DeletesLine machine first b → a ≡ b
  same_deleted machine (Ok first) a b p q = same_unless_final (is_final_end first.line) machine a b p q
  same_deleted machine (Err refusal) a b p q = p ∙ sym q

  same_deletion : (pages : PageMap) (at_line_00 : Bool) (machine : Machine) (a b : Moved)
      → MatchBool at_line_00 (a ≡ Ok machine) (ByFirst pages machine (λ first. DeletesLine machine first a))
      → MatchBool at_line_00 (b ≡ Ok machine) (ByFirst pages machine (λ first. DeletesLine machine first b)) → a ≡ b
  same_deletion pages true machine a b p q = p ∙ sym q
  same_deletion pages false machine a b p q =
      let same = once.line pages machine.memory machine.focal.position p.0 q.0 p.1 q.1 in
      same_deleted machine q.0 a b (subst (λ (first : Result PlacedLine ProgramRefusal). DeletesLine machine first a) same p.2) q.2

  pub deletion_determined : (pages : PageMap) → MoveIsDetermined (Deletes pages)
  deletion_determined pages machine a b p q = same_deletion pages machine.focal.at_line_00 machine a b p q
