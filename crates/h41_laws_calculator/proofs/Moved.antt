-- The result of keys in program mode, and the text that it shows.
use Rattle.std.proofs.Common.{◌≡◌, ℕ, List, Option, Some, None, Result, Ok, Err, MatchBool, inl, inr, refl}
use Rattle.std.specs.Option.{option_map}
use Rattle.h41_editor.specs.Changes.{Changed, Deletes, DeletesAt, DeletesLine, ShowsFront, shown_in_front}
use Rattle.h41_editor.specs.EditorLaws.{MoveIsDetermined}
use Rattle.h41_editor.specs.Moves.{EndsBy, GoesToEnd, ShowsAfterLine, ShowsAt, ShowsBefore, ShowsBeforeLine, ShowsEnd, ShowsInFront}
use Rattle.h41_editor.specs.Moves.{ShowsNext, ShowsStart, is_last, shown_end}
use Rattle.h41_editor.specs.NumberedLines.{HasNumbered, Numbers, with_number}
use Rattle.h41_editor.specs.ProgramText.{ShowsLine, ShowsProgram, line_00_text, text_of, unknown_text}
use Rattle.h41_editor.specs.declared.numbered.NumberedLine.{NumberedLine}
use Rattle.h41_positions.specs.FocalState.{Machine, at_line}
use Rattle.h41_pages.specs.PageMap.{PageMap}
use Rattle.h41_positions.specs.PositionLaws.{LinesHaveNext}
use Rattle.h41_positions.specs.Positions.{EndOf, LineAt, LineBefore, NextAt, NumberAt, StartOf}
use Rattle.h41_positions.specs.declared.position.PlacedLine.{PlacedLine}
use Rattle.h41_positions.specs.declared.position.Position.{Position}
use Rattle.h41_positions.specs.declared.position.Position.TheVariants.{Memory, Page}
use Rattle.h41_program.specs.Edits.{EditGives, before_end, close_behind, position_in_front, without_deleted}
use Rattle.h41_program.specs.Lines.{is_final_end}
use Rattle.h41_program.specs.ProgramBytes.{final_position}
use Rattle.h41_program.specs.ProgramLaws.{OneList}
use Rattle.h41_program.specs.Searches.{start_in}
use Rattle.h41_program.specs.declared.editing.InFront.{InFront}
use Rattle.h41_program.specs.declared.listed_line.ListedLine.{ListedLine}
use Rattle.h41_program.specs.declared.refusal.ProgramRefusal.{ProgramRefusal}
use Rattle.h41_program.specs.declared.refusal.ProgramRefusal.TheVariants.{BrokenProgram}
use Rattle.h41_ram.specs.RegisterMap.{RegisterMap, is_sound}
use Rattle.h41_laws_words.proofs.Answering.{Has, has_one}
use Rattle.h41_laws_calculator.specs.ProgramAnswers.{PositionHasOne}
use Rattle.h41_laws_calculator.specs.ProgramChanges.{ChangeHasOneAnswer, EditHasOneOutcome}
use Rattle.h41_laws_calculator.specs.ProgramMode.{MoveHasOneOutcome}
use Rattle.h41_laws_calculator.proofs.Chosen.{alone, either, made_of, one_there, through}

-- The result of a move or a change.
abbrev Moved : Type 0
Moved = Result Machine ProgramRefusal

pub one_move : (Moves : Machine → Moved → Type 0) → MoveIsDetermined Moves → ((machine : Machine) → Has (Moves machine))
    → MoveHasOneOutcome Moves
one_move Moves determined some machine = has_one (some machine) (determined machine)

module _ (lines : PositionHasOne LineAt) (numbers : PositionHasOne NumberAt) where
  numbered_in : (pages : PageMap) (memory : RegisterMap) (first : Result PlacedLine ProgramRefusal) → Has (Numbers pages memory first)
  numbered_in pages memory (Ok first) = made_of (option_map (with_number first)) (one_there (numbers pages memory first.position))
  numbered_in pages memory (Err refusal) = alone None

  pub numbered : (pages : PageMap) (memory : RegisterMap) (at : Position) → Has (HasNumbered pages memory at)
  numbered pages memory at = through (one_there (lines pages memory at)) (λ first _. numbered_in pages memory first)

  -- The text of the program.
  shows_line : (pages : PageMap) (machine : Machine) → Has (ShowsLine pages machine)
  shows_line pages machine = made_of text_of (numbered pages machine.memory machine.focal.position)

  pub shows_program : (pages : PageMap) (machine : Machine) → Has (ShowsProgram pages machine)
  shows_program pages machine =
      either (is_sound machine.memory)
      (λ text. MatchBool machine.focal.at_line_00 (text ≡ line_00_text machine.memory) (ShowsLine pages machine text))
      (λ text. text ≡ unknown_text)
      (either machine.focal.at_line_00 (λ text. text ≡ line_00_text machine.memory) (ShowsLine pages machine)
      (alone (line_00_text machine.memory)) (shows_line pages machine))
      (alone unknown_text)

  module _ (starts : PositionHasOne StartOf) where
    shows_start : (pages : PageMap) (machine : Machine) → Has (ShowsStart pages machine)
    shows_start pages machine = made_of _ (one_there (starts pages machine.memory machine.focal.position))

    -- The key SST.
    module _ (nexts : PositionHasOne NextAt) (onward : LinesHaveNext) where
      abbrev Next : PageMap → Machine → Type 0
      Next pages machine = (next : Position) × NextAt pages machine.memory machine.focal.position (Ok next)

      pub next_in : (pages : PageMap) (machine : Machine) (first : PlacedLine) (next : Result Position ProgramRefusal)
          → LineAt pages machine.memory machine.focal.position (Ok first) → NextAt pages machine.memory machine.focal.position next
          → Next pages machine
      next_in pages machine first (Ok next) stands is = (next, is)
      next_in pages machine first (Err refusal) stands is =
          absurd (onward pages machine.memory machine.focal.position first refusal stands is)

      abbrev ShowsOn : PageMap → Machine → Moved → Type 0
      ShowsOn pages machine moved =
          (next : Position) × NextAt pages machine.memory machine.focal.position (Ok next) × (moved ≡ Ok (at_line next machine))

      shows_on : (pages : PageMap) (machine : Machine) → Next pages machine → Has (ShowsOn pages machine)
      shows_on pages machine next = record { answer = Ok (at_line next.0 machine); right = (next.0, next.1, refl) }

      shows_behind : (pages : PageMap) (machine : Machine) (first : Result PlacedLine ProgramRefusal)
          → LineAt pages machine.memory machine.focal.position first → Has (ShowsAfterLine pages machine first)
      shows_behind pages machine (Ok first) stands =
          let next = nexts pages machine.memory machine.focal.position in
          either (is_last first) (ShowsStart pages machine) (ShowsOn pages machine) (shows_start pages machine)
          (shows_on pages machine (next_in pages machine first next.answer stands next.right))
      shows_behind pages machine (Err refusal) stands = alone (Err BrokenProgram)

      abbrev ShowsFrom : PageMap → Machine → Moved → Type 0
      ShowsFrom pages machine moved =
          (first : Result PlacedLine ProgramRefusal)
          × LineAt pages machine.memory machine.focal.position first
          × ShowsAfterLine pages machine first moved

      shows_from : (pages : PageMap) (machine : Machine) → Has (ShowsFrom pages machine)
      shows_from pages machine = through (one_there (lines pages machine.memory machine.focal.position)) (shows_behind pages machine)

      pub shows_next : (pages : PageMap) (machine : Machine) → Has (ShowsNext pages machine)
      shows_next pages machine =
          either machine.focal.at_line_00 (λ moved. moved ≡ Ok (at_line machine.focal.position machine)) (ShowsFrom pages machine)
          (alone (Ok (at_line machine.focal.position machine))) (shows_from pages machine)

    -- The key BST.
    module _ (ends : PositionHasOne EndOf) (befores : PositionHasOne LineBefore) where
      shows_end : (pages : PageMap) (machine : Machine) (first : PlacedLine) → Has (ShowsEnd pages machine first)
      shows_end pages machine first = made_of (shown_end machine) (one_there (ends pages machine.memory first.position))

      shows_at : (pages : PageMap) (machine : Machine) (before : Option Position) → Has (ShowsAt pages machine before)
      shows_at pages machine (Some position) = alone (Ok (at_line position machine))
      shows_at pages machine None = shows_start pages machine

      shows_in_front : (pages : PageMap) (machine : Machine) (first : PlacedLine) → Has (ShowsInFront pages machine first)
      shows_in_front pages machine first =
          through (one_there (befores pages machine.memory first.position)) (λ before _. shows_at pages machine before)

      shows_before_line : (pages : PageMap) (machine : Machine) (numbered : Option NumberedLine)
          → Has (ShowsBeforeLine pages machine numbered)
      shows_before_line pages machine (Some numbered) =
          either machine.focal.at_line_00 (ShowsEnd pages machine numbered.placed) (ShowsInFront pages machine numbered.placed)
          (shows_end pages machine numbered.placed) (shows_in_front pages machine numbered.placed)
      shows_before_line pages machine None = alone (Err BrokenProgram)

      pub shows_before : (pages : PageMap) (machine : Machine) → Has (ShowsBefore pages machine)
      shows_before pages machine =
          through (numbered pages machine.memory machine.focal.position) (λ found _. shows_before_line pages machine found)

-- The keys GTO . .
module _ (lists : OneList) where
  ends_by : (machine : Machine) (lines : List ListedLine) (closed : Changed) → Has (EndsBy machine lines closed)
  ends_by machine lines (Ok closed) =
      let all = lists closed.0 0 in
      let start = start_in (final_position closed.0) all.lines in
      record { answer = _; right = (start, (all.lines, all.from, refl), refl) }
  ends_by machine lines (Err refusal) = alone (Err refusal)

  pub goes_to_end : (machine : Machine) → Has (GoesToEnd machine)
  goes_to_end machine =
      let all = lists machine.memory 0 in
      let moved = ends_by machine all.lines (close_behind machine.memory (before_end all.lines)) in
      record { answer = moved.answer; right = (all.lines, all.from, moved.right) }

-- The key BACK.
abbrev Gone : Machine → ℕ → Changed → Type 0
Gone machine at changed = EditGives machine.memory without_deleted at changed

module _ (lines : PositionHasOne LineAt) (edits : EditHasOneOutcome) (fronts : ChangeHasOneAnswer InFront) where
  shows_front : (machine : Machine) (at : ℕ) (changed : Changed) → Gone machine at changed → Has (ShowsFront machine at changed)
  shows_front machine at (Ok changed) (inl found) =
      let front = fronts position_in_front machine.memory at changed.0 found.0 found.1 in
      record { answer = Ok (shown_in_front machine changed.0 front.answer); right = (front.answer, front.right, refl) }
  shows_front machine at (Ok changed) (inr none) = absurd (let never : ◌≡◌ {A = Changed} (Ok changed) (Err BrokenProgram) = none.1 in cc)
  shows_front machine at (Err refusal) gone = alone (Err refusal)

  deletes_at : (machine : Machine) (position : Position) → Has (DeletesAt machine position)
  deletes_at machine (Memory at) = through (one_there (edits machine.memory without_deleted at)) (shows_front machine at)
  deletes_at machine (Page address) = alone (Err BrokenProgram)

  deletes_line : (machine : Machine) (first : Result PlacedLine ProgramRefusal) → Has (DeletesLine machine first)
  deletes_line machine (Ok first) =
      either (is_final_end first.line) (λ made. made ≡ Ok machine) (DeletesAt machine machine.focal.position) (alone (Ok machine))
      (deletes_at machine machine.focal.position)
  deletes_line machine (Err refusal) = alone (Err BrokenProgram)

  abbrev DeletesShown : PageMap → Machine → Moved → Type 0
  DeletesShown pages machine made =
      (first : Result PlacedLine ProgramRefusal) × LineAt pages machine.memory machine.focal.position first × DeletesLine machine first made

  deletes_shown : (pages : PageMap) (machine : Machine) → Has (DeletesShown pages machine)
  deletes_shown pages machine =
      through (one_there (lines pages machine.memory machine.focal.position)) (λ first _. deletes_line machine first)

  pub deletes : (pages : PageMap) (machine : Machine) → Has (Deletes pages machine)
  deletes pages machine =
      either machine.focal.at_line_00 (λ made. made ≡ Ok machine) (DeletesShown pages machine) (alone (Ok machine))
      (deletes_shown pages machine)
