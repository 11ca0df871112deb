-- Lines that are inserted, or replace others.
use Rattle.std.proofs.Common.{◌≡◌, ℕ, true, List, Option, Some, None, Result, Ok, Err, MatchBool, inl, inr, refl, sym, rules}
use Rattle.h41_codes.specs.ByteLaws.{ByteRoundTrip, OneLine}
use Rattle.h41_codes.specs.declared.line.Line.{Line}
use Rattle.h41_editor.specs.Changes.{Changed, Inserts, InsertsAt, InsertsBefore, InsertsBy, Replaces, ReplacesAt, ShowsNew, showing_line}
use Rattle.h41_editor.specs.EditorLaws.{ChangeIsDetermined}
use Rattle.h41_editor.specs.Moves.{is_last}
use Rattle.h41_editor.specs.NumberedLines.{HasNumbered, Numbers}
use Rattle.h41_editor.specs.declared.numbered.NumberedLine.{NumberedLine}
use Rattle.h41_positions.specs.FocalState.{Machine}
use Rattle.h41_pages.specs.PageMap.{PageMap}
use Rattle.h41_positions.specs.PositionLaws.{LinesHaveNext}
use Rattle.h41_positions.specs.Positions.{LineAt, NextAt, NumberAt, StartOf}
use Rattle.h41_positions.specs.declared.position.PlacedLine.{PlacedLine}
use Rattle.h41_positions.specs.declared.position.Position.{Position}
use Rattle.h41_positions.specs.declared.position.Position.TheVariants.{Memory, Page}
use Rattle.h41_program.proofs.EditAnswers.{PutsAt, leaves_new, stands_new}
use Rattle.h41_program.proofs.Inner.{inserted_inner, replaced_inner}
use Rattle.h41_program.proofs.NewLines.{inserted_begins, inserted_keeps, replaced_begins, replaced_keeps}
use Rattle.h41_program.specs.Edits.{EditGives, Edits, count_before, with_inserted, with_replaced}
use Rattle.h41_program.specs.ProgramBytes.{final_position, program_bytes}
use Rattle.h41_program.specs.ProgramLaws.{IsInner, OneList}
use Rattle.h41_program.specs.FirstLines.{FirstFrom}
use Rattle.h41_program.specs.declared.listed_line.ListedLine.{ListedLine}
use Rattle.h41_program.specs.declared.refusal.ProgramRefusal.{ProgramRefusal}
use Rattle.h41_program.specs.declared.refusal.ProgramRefusal.TheVariants.{BrokenProgram}
use Rattle.h41_program.specs.private.EditSteps.{Counts}
use Rattle.h41_ram.specs.RegisterMap.{RegisterMap, is_sound}
use Rattle.h41_laws_words.proofs.Answering.{Has, has_one}
use Rattle.h41_laws_calculator.specs.ProgramAnswers.{PositionHasOne}
use Rattle.h41_laws_calculator.specs.ProgramChanges.{EditHasOneOutcome}
use Rattle.h41_laws_calculator.specs.ProgramMode.{ChangeHasOneOutcome}
use Rattle.h41_laws_calculator.proofs.Chosen.{alone, either, one_there, through}
use Rattle.h41_laws_calculator.proofs.Moved.{next_in, numbered}

pub one_change : (Makes : Line → Machine → Result Machine ProgramRefusal → Type 0) → ChangeIsDetermined Makes
    → ((line : Line) (machine : Machine) → IsInner line → is_sound machine.memory ≡ true → Has (Makes line machine))
    → ChangeHasOneOutcome Makes
one_change Makes determined some line machine inner sound = has_one (some line machine inner sound) (determined line machine)

put_before : (line : Line) → IsInner line → PutsAt line (with_inserted line)
put_before line inner = search (rules, inserted_begins, inserted_keeps, inserted_inner)

put_instead : (line : Line) → IsInner line → PutsAt line (with_replaced line)
put_instead line inner = search (rules, replaced_begins, replaced_keeps, replaced_inner)

module _ (again : ByteRoundTrip) (one : OneLine) (lists : OneList) (edits : EditHasOneOutcome) where
  -- How many lines are before the line of a position.
  counts : (memory : RegisterMap) (at : ℕ) (first : ListedLine) → FirstFrom (program_bytes memory) (final_position memory) at first
      → Counts memory at (count_before first.position (lists memory 0).lines)
  counts memory at first stands = search rules

  module _ (line : Line) (change : ℕ → ListedLine → List Line) (puts : PutsAt line change) where
    shows_new : (machine : Machine) (at : ℕ) (changed : Changed) → is_sound machine.memory ≡ true
        → EditGives machine.memory change at changed → Has (ShowsNew machine at changed)
    shows_new machine at (Ok (new, unit)) sound (inl found) =
        let edited : Edits machine.memory new change at (Ok tt) = (Ok (new, tt), inl found, (refl, refl)) in
        let counted = counts machine.memory at found.0 found.1 in
        let count = count_before found.0.position (lists machine.memory 0).lines in
        let left = leaves_new again one machine.memory new change at count line sound puts edited counted in
        let stands =
        stands_new machine.memory new at count counted left.leaves.listed left.leaves.read left.has.there (sym left.has.got) in
        record {
          answer = Ok (showing_line machine new left.has.there.position);
          right = (left.has.there.position, stands, refl);
        }
    shows_new machine at (Ok changed) sound (inr none) =
        absurd (let never : ◌≡◌ {A = Changed} (Ok changed) (Err BrokenProgram) = none.1 in cc)
    shows_new machine at (Err refusal) sound gives = alone (Err refusal)

  replaces_at : (line : Line) (machine : Machine) (position : Position) → IsInner line → is_sound machine.memory ≡ true
      → Has (ReplacesAt line machine position)
  replaces_at line machine (Memory at) inner sound =
      through (one_there (edits machine.memory (with_replaced line) at))
      (λ changed is. shows_new line (with_replaced line) (put_instead line inner) machine at changed sound is)
  replaces_at line machine (Page address) inner sound = alone (Err BrokenProgram)

  pub replaces : (line : Line) (machine : Machine) → IsInner line → is_sound machine.memory ≡ true → Has (Replaces line machine)
  replaces line machine inner sound = replaces_at line machine machine.focal.position inner sound

  inserts_before : (line : Line) (machine : Machine) (position : Position) → IsInner line → is_sound machine.memory ≡ true
      → Has (InsertsBefore line machine position)
  inserts_before line machine (Memory before) inner sound =
      through (one_there (edits machine.memory (with_inserted line) before))
      (λ changed is. shows_new line (with_inserted line) (put_before line inner) machine before changed sound is)
  inserts_before line machine (Page address) inner sound = alone (Err BrokenProgram)

  module _ (lines : PositionHasOne LineAt) (numbers : PositionHasOne NumberAt) (starts : PositionHasOne StartOf)
      (nexts : PositionHasOne NextAt) (onward : LinesHaveNext) where
    abbrev Line_at : PageMap → Machine → Type 0
    Line_at pages machine = (first : PlacedLine) × LineAt pages machine.memory machine.focal.position (Ok first)

    line_numbered : (pages : PageMap) (machine : Machine) (of : NumberedLine) (first : Result PlacedLine ProgramRefusal)
        → LineAt pages machine.memory machine.focal.position first → Numbers pages machine.memory first (Some of) → Line_at pages machine
    line_numbered pages machine of (Ok first) stands numbered = (first, stands)
    line_numbered pages machine of (Err refusal) stands none =
        absurd (let never : ◌≡◌ {A = Option NumberedLine} (Some of) None = none in cc)

    inserts_at : (pages : PageMap) (machine : Machine) (shown : PlacedLine) → Line_at pages machine → Has (InsertsAt pages machine shown)
    inserts_at pages machine shown line =
        let start = starts pages machine.memory machine.focal.position in
        let next = nexts pages machine.memory machine.focal.position in
        let behind = next_in lines numbers starts nexts onward pages machine line.0 next.answer line.1 next.right in
        either machine.focal.at_line_00 (StartOf pages machine.memory machine.focal.position)
        (λ before.
        MatchBool (is_last shown) (before ≡ shown.position)
        (NextAt pages machine.memory machine.focal.position (Ok before)))
        (record { answer = start.answer; right = start.right })
        (either (is_last shown) (λ before. before ≡ shown.position)
        (λ before. NextAt pages machine.memory machine.focal.position (Ok before))
        (alone shown.position) (record { answer = behind.0; right = behind.1 }))

    inserts_by : (pages : PageMap) (line : Line) (machine : Machine) (of : Option NumberedLine) → IsInner line
        → is_sound machine.memory ≡ true → HasNumbered pages machine.memory machine.focal.position of
        → Has (InsertsBy pages line machine of)
    inserts_by pages line machine (Some of) inner sound has =
        through (inserts_at pages machine of.placed (line_numbered pages machine of has.0 has.1 has.2))
        (λ before _. inserts_before line machine before inner sound)
    inserts_by pages line machine None inner sound has = alone (Err BrokenProgram)

    pub inserts : (pages : PageMap) (line : Line) (machine : Machine) → IsInner line → is_sound machine.memory ≡ true
        → Has (Inserts pages line machine)
    inserts pages line machine inner sound =
        through (numbered lines numbers pages machine.memory machine.focal.position)
        (λ found is. inserts_by pages line machine found inner sound is)
