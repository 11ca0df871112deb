-- Keys in program mode leave memory well-formed.
use Rattle.std.proofs.Common.{ℕ, List, Option, Some, None, Result, Ok, Err, rules}
use Rattle.h41_codes.specs.declared.line.Line.{Line}
use Rattle.h41_editor.specs.Changes.{Changed, Deletes, DeletesAt, DeletesLine, Inserts, InsertsBefore, InsertsBy, Replaces, ReplacesAt}
use Rattle.h41_editor.specs.Changes.{ShowsFront, ShowsNew, shown_in_front}
use Rattle.h41_editor.specs.Moves.{EndsBy, GoesToEnd, ShowsAfterLine, ShowsAt, ShowsBefore, ShowsBeforeLine}
use Rattle.h41_editor.specs.Moves.{ShowsNext, ShowsStart, shown_end}
use Rattle.h41_editor.specs.declared.numbered.NumberedLine.{NumberedLine}
use Rattle.h41_positions.specs.FocalState.{Machine}
use Rattle.h41_pages.specs.PageMap.{PageMap}
use Rattle.h41_positions.specs.declared.position.PlacedLine.{PlacedLine}
use Rattle.h41_positions.specs.declared.position.Position.{Position}
use Rattle.h41_positions.specs.declared.position.Position.TheVariants.{Memory, Page}
use Rattle.h41_program.proofs.Inner.{deleted_inner, inserted_inner, replaced_inner}
use Rattle.h41_program.specs.ProgramLaws.{IsInner}
use Rattle.h41_program.specs.declared.editing.InFront.{InFront}
use Rattle.h41_program.specs.declared.editing.InFront.TheVariants as fronts
use Rattle.h41_program.specs.declared.listed_line.ListedLine.{ListedLine}
use Rattle.h41_program.specs.declared.refusal.ProgramRefusal.{ProgramRefusal}
use Rattle.h41_ram.specs.RegisterMap.{RegisterMap}
use Rattle.h41_laws_calculator.specs.WholeMemory.{IsWholeMemory}
use Rattle.h41_laws_calculator.proofs.WholeLines.{matched}
use Rattle.h41_laws_calculator.proofs.WholePrograms.{Kept, closed, edited}
use Rattle.h41_program.specs.Edits.{with_inserted, with_replaced, without_deleted}

-- The result of a key, if there is one.
abbrev pub MachineKept : Result Machine ProgramRefusal → Type 0
MachineKept (Ok machine) = IsWholeMemory machine.memory
MachineKept (Err refusal) = Unit {0}

abbrev Moved : Type 0
Moved = Result Machine ProgramRefusal

-- MOVES
module _ (pages : PageMap) (machine : Machine) (whole : IsWholeMemory machine.memory) where
  shows_start : (moved : Moved) → ShowsStart pages machine moved → MachineKept moved
  shows_start moved is = rw is.2 whole

  shows_behind : (first : Result PlacedLine ProgramRefusal) (moved : Moved) → ShowsAfterLine pages machine first moved → MachineKept moved
  shows_behind (Ok first) moved is = search (rules, matched, shows_start)
  shows_behind (Err refusal) moved is = rw is tt

  pub next_kept : (moved : Moved) → ShowsNext pages machine moved → MachineKept moved
  next_kept moved is = search (rules, matched, shows_behind)

  end_shown : (end : Option Position) → MachineKept (shown_end machine end)
  end_shown (Some position) = whole
  end_shown None = tt

  shows_at : (before : Option Position) (moved : Moved) → ShowsAt pages machine before moved → MachineKept moved
  shows_at (Some position) moved is = rw is whole
  shows_at None moved is = shows_start moved is

  shows_before_line : (numbered : Option NumberedLine) (moved : Moved) → ShowsBeforeLine pages machine numbered moved → MachineKept moved
  shows_before_line (Some numbered) moved is = search (rules, matched, end_shown, shows_at)
  shows_before_line None moved is = rw is tt

  pub before_kept : (moved : Moved) → ShowsBefore pages machine moved → MachineKept moved
  before_kept moved is = shows_before_line is.0 moved is.2

ends_by : (machine : Machine) (listed : List ListedLine) (outcome : Result (RegisterMap × Unit {0}) ProgramRefusal) (moved : Moved)
    → Kept outcome → EndsBy machine listed outcome moved → MachineKept moved
ends_by machine listed (Ok closed) moved whole is = rw is.2 whole
ends_by machine listed (Err refusal) moved whole is = rw is tt

pub end_kept : (machine : Machine) (moved : Moved) → IsWholeMemory machine.memory → GoesToEnd machine moved → MachineKept moved
end_kept machine moved whole is = search (rules, ends_by, closed)

-- CHANGES
shows_new : (machine : Machine) (at : ℕ) (changed : Changed) (made : Moved) → Kept changed → ShowsNew machine at changed made
    → MachineKept made
shows_new machine at (Ok changed) made whole is = rw is.2 whole
shows_new machine at (Err refusal) made whole is = rw is tt

module _ (line : Line) (machine : Machine) (inner : IsInner line) (whole : IsWholeMemory machine.memory) where
  inserts_before : (position : Position) (made : Moved) → InsertsBefore line machine position made → MachineKept made
  inserts_before (Memory before) made is =
      shows_new machine before is.0 made
      (edited machine.memory (with_inserted line) before is.0 (λ position. inserted_inner line position inner) whole is.1) is.2
  inserts_before (Page address) made is = rw is tt

  inserts_by : (pages : PageMap) (numbered : Option NumberedLine) (made : Moved) → InsertsBy pages line machine numbered made
      → MachineKept made
  inserts_by pages (Some numbered) made is = inserts_before is.0 made is.2
  inserts_by pages None made is = rw is tt

  pub inserted_kept : (pages : PageMap) (made : Moved) → Inserts pages line machine made → MachineKept made
  inserted_kept pages made is = inserts_by pages is.0 made is.2

  replaces_at : (position : Position) (made : Moved) → ReplacesAt line machine position made → MachineKept made
  replaces_at (Memory at) made is =
      shows_new machine at is.0 made
      (edited machine.memory (with_replaced line) at is.0 (λ position. replaced_inner line position inner) whole is.1) is.2
  replaces_at (Page address) made is = rw is tt

  pub replaced_kept : (made : Moved) → Replaces line machine made → MachineKept made
  replaced_kept made is = replaces_at machine.focal.position made is

module _ (machine : Machine) where
  front_shown : (new : RegisterMap) (front : InFront) → IsWholeMemory new → IsWholeMemory (shown_in_front machine new front).memory
  front_shown new (fronts.Line position) whole = whole
  front_shown new (fronts.Start start) whole = whole

  shows_front : (at : ℕ) (changed : Changed) (made : Moved) → Kept changed → ShowsFront machine at changed made → MachineKept made
  shows_front at (Ok changed) made whole is = rw is.2 (front_shown changed.0 is.0 whole)
  shows_front at (Err refusal) made whole is = rw is tt

  module _ (whole : IsWholeMemory machine.memory) where
    deletes_at : (position : Position) (made : Moved) → DeletesAt machine position made → MachineKept made
    deletes_at (Memory at) made is =
        shows_front at is.0 made (edited machine.memory without_deleted at is.0 (λ position. deleted_inner position) whole is.1) is.2
    deletes_at (Page address) made is = rw is tt

    deletes_line : (first : Result PlacedLine ProgramRefusal) (made : Moved) → DeletesLine machine first made → MachineKept made
    deletes_line (Ok first) made is = search (rules, matched, deletes_at)
    deletes_line (Err refusal) made is = rw is tt

    pub deleted_kept : (pages : PageMap) (made : Moved) → Deletes pages machine made → MachineKept made
    deleted_kept pages made is = search (rules, matched, deletes_line)
