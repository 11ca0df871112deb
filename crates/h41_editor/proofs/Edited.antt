-- The state after changes of lines, by the answers of program memory.
use Rattle.std.proofs.Common.{◌≡◌, ℕ, false, List, refl, sym, subst, Some, Result, Ok, Err}
use Rattle.h41_codes.specs.declared.line.Line.{Line}
use Rattle.h41_editor.specs.Changes.{Changed, Deletes, Inserts, InsertsAt, Replaces, shown_in_front, with_line_shown}
use Rattle.h41_editor.specs.NumberedLines.{HasNumbered}
use Rattle.h41_editor.specs.declared.numbered.NumberedLine.{NumberedLine}
use Rattle.h41_positions.specs.FocalState.{FocalState, Machine}
use Rattle.h41_pages.specs.PageMap.{PageMap}
use Rattle.h41_program.specs.Edits.{EditGives, Edits, StandsBefore, StandsNew, with_inserted, with_replaced, without_deleted}
use Rattle.h41_program.specs.Lines.{is_final_end}
use Rattle.h41_positions.specs.Positions.{LineAt}
use Rattle.h41_program.specs.Rewriting.{HasOutcome}
use Rattle.h41_program.specs.declared.editing.InFront.{InFront}
use Rattle.h41_program.specs.declared.listed_line.ListedLine.{ListedLine}
use Rattle.h41_positions.specs.declared.position.PlacedLine.{PlacedLine}
use Rattle.h41_positions.specs.declared.position.Position.{Position}
use Rattle.h41_positions.specs.declared.position.Position.TheVariants.{Memory, Page}
use Rattle.h41_program.specs.declared.refusal.ProgramRefusal.{ProgramRefusal}
use Rattle.h41_program.specs.declared.refusal.ProgramRefusal.TheVariants.{BrokenProgram}
use Rattle.h41_ram.specs.RegisterMap.{RegisterMap}

-- An accepted change has this memory.
given_made :
    (memory new : RegisterMap) (change : ℕ → ListedLine → List Line) (at : ℕ) (outcome : Changed)
    → EditGives memory change at outcome
    → HasOutcome memory new (Ok tt) outcome
    → EditGives memory change at (Ok (new, tt))
given_made memory new change at (Ok made) gives has = subst (λ (m : RegisterMap). EditGives memory change at (Ok (m, tt))) (sym has.1) gives
given_made memory new change at (Err other) gives has =
    let never : ◌≡◌ {A = Result (Unit {0}) ProgramRefusal} (Ok tt) (Err other) = has.0 in cc

edit_made :
    (memory new : RegisterMap) (change : ℕ → ListedLine → List Line) (at : ℕ)
    → Edits memory new change at (Ok tt)
    → EditGives memory change at (Ok (new, tt))
edit_made memory new change at edits = given_made memory new change at edits.0 edits.1 edits.2

-- A refused change has this refusal.
given_refused :
    (memory new : RegisterMap) (change : ℕ → ListedLine → List Line) (at : ℕ) (refusal : ProgramRefusal) (outcome : Changed)
    → EditGives memory change at outcome
    → HasOutcome memory new (Err refusal) outcome
    → EditGives memory change at (Err refusal)
given_refused memory new change at refusal (Ok made) gives has =
    let never : ◌≡◌ {A = Result (Unit {0}) ProgramRefusal} (Err refusal) (Ok tt) = has.0 in cc
given_refused memory new change at refusal (Err other) gives has =
    let refused : ◌≡◌ {A = Result (Unit {0}) ProgramRefusal} (Err refusal) (Err other) = has.0 in
    let same : other ≡ refusal = cc in
    subst (λ (r : ProgramRefusal). EditGives memory change at (Err r)) same gives

edit_refused :
    (memory new : RegisterMap) (change : ℕ → ListedLine → List Line) (at : ℕ) (refusal : ProgramRefusal)
    → Edits memory new change at (Err refusal)
    → EditGives memory change at (Err refusal)
edit_refused memory new change at refusal edits = given_refused memory new change at refusal edits.0 edits.1 edits.2

-- A line is inserted.
pub line_inserted :
    (pages : PageMap) (line : Line) (from machine : Machine) (new : RegisterMap) (after : FocalState) (numbered : NumberedLine)
    (place : Position) (before position : ℕ)
    → from ≡ machine
    → HasNumbered pages machine.memory machine.focal.position (Some numbered)
    → InsertsAt pages machine numbered.placed place
    → place ≡ Memory before
    → Edits from.memory new (with_inserted line) before (Ok tt)
    → StandsNew from.memory before new position
    → after ≡ with_line_shown (Memory position) from.focal
    → Inserts pages line machine (Ok (record { memory = new; focal = after }))
line_inserted pages line from machine new after numbered place before position is has at_place byte edits stands shown =
    let there = rw (← is) at has in
    let here = rw (← is, byte) at at_place in
    rw (shown, ← is) (
      Some numbered,
      there,
      (Memory before, here, (Ok (new, tt), edit_made from.memory new (with_inserted line) before edits, (position, stands, refl))),
    )

pub insert_refused :
    (pages : PageMap) (line : Line) (from machine : Machine) (new : RegisterMap) (numbered : NumberedLine) (place : Position) (before : ℕ)
    (refusal : ProgramRefusal)
    → from ≡ machine
    → HasNumbered pages machine.memory machine.focal.position (Some numbered)
    → InsertsAt pages machine numbered.placed place
    → place ≡ Memory before
    → Edits from.memory new (with_inserted line) before (Err refusal)
    → Inserts pages line machine (Err refusal)
insert_refused pages line from machine new numbered place before refusal is has at_place byte edits =
    let there = rw (← is) at has in
    let here = rw (← is, byte) at at_place in
    rw (← is) (
      Some numbered,
      there,
      (Memory before, here, (Err refusal, edit_refused from.memory new (with_inserted line) before refusal edits, refl)),
    )

-- A line is replaced.
pub line_replaced :
    (line : Line) (from machine : Machine) (new : RegisterMap) (after : FocalState) (at position : ℕ)
    → from ≡ machine
    → from.focal.position ≡ Memory at
    → Edits from.memory new (with_replaced line) at (Ok tt)
    → StandsNew from.memory at new position
    → after ≡ with_line_shown (Memory position) machine.focal
    → Replaces line machine (Ok (record { memory = new; focal = after }))
line_replaced line from machine new after at position is byte edits stands shown =
    rw (shown, ← is, byte) (Ok (new, tt), edit_made from.memory new (with_replaced line) at edits, (position, stands, refl))

pub replace_refused :
    (line : Line) (from machine : Machine) (new : RegisterMap) (at : ℕ) (refusal : ProgramRefusal)
    → from ≡ machine
    → from.focal.position ≡ Memory at
    → Edits from.memory new (with_replaced line) at (Err refusal)
    → Replaces line machine (Err refusal)
replace_refused line from machine new at refusal is byte edits =
    rw (← is, byte) (Err refusal, edit_refused from.memory new (with_replaced line) at refusal edits, refl)

-- A line is deleted.
pub line_deleted :
    (pages : PageMap) (from machine left : Machine) (new : RegisterMap) (first : PlacedLine) (at : ℕ) (front : InFront)
    → from ≡ machine
    → from.focal.at_line_00 ≡ false
    → LineAt pages from.memory from.focal.position (Ok first)
    → false ≡ is_final_end first.line
    → from.focal.position ≡ Memory at
    → Edits from.memory new without_deleted at (Ok tt)
    → StandsBefore from.memory at new front
    → left ≡ shown_in_front machine new front
    → Deletes pages machine (Ok left)
line_deleted pages from machine left new first at front is behind there inner byte edits stands shown =
    rw (shown, ← is, behind) (
      Ok first,
      there,
      rw (sym inner, byte) (Ok (new, tt), edit_made from.memory new without_deleted at edits, (front, stands, refl)),
    )

pub delete_refused :
    (pages : PageMap) (from machine : Machine) (new : RegisterMap) (first : PlacedLine) (at : ℕ) (refusal : ProgramRefusal)
    → from ≡ machine
    → from.focal.at_line_00 ≡ false
    → LineAt pages from.memory from.focal.position (Ok first)
    → false ≡ is_final_end first.line
    → from.focal.position ≡ Memory at
    → Edits from.memory new without_deleted at (Err refusal)
    → Deletes pages machine (Err refusal)
delete_refused pages from machine new first at refusal is behind there inner byte edits =
    rw (← is, behind)
    (Ok first, there, rw (sym inner, byte) (Err refusal, edit_refused from.memory new without_deleted at refusal edits, refl))

-- In a page nothing is changed.
pub insert_in_page :
    (pages : PageMap) (line : Line) (machine : Machine) (numbered : NumberedLine) (place : Position) (address : ℕ)
    → HasNumbered pages machine.memory machine.focal.position (Some numbered)
    → InsertsAt pages machine numbered.placed place
    → place ≡ Page address
    → Inserts pages line machine (Err BrokenProgram)
insert_in_page pages line machine numbered place address has at_place page = (Some numbered, has, (place, at_place, rw page refl))

pub replace_in_page :
    (line : Line) (from machine : Machine) (address : ℕ)
    → from ≡ machine
    → from.focal.position ≡ Page address
    → Replaces line machine (Err BrokenProgram)
replace_in_page line from machine address is page = rw (← is, page) refl

pub delete_in_page :
    (pages : PageMap) (from machine : Machine) (first : PlacedLine) (address : ℕ)
    → from ≡ machine
    → from.focal.at_line_00 ≡ false
    → LineAt pages from.memory from.focal.position (Ok first)
    → false ≡ is_final_end first.line
    → from.focal.position ≡ Page address
    → Deletes pages machine (Err BrokenProgram)
delete_in_page pages from machine first address is behind there inner page =
    rw (← is, behind) (Ok first, there, rw (sym inner, page) refl)
