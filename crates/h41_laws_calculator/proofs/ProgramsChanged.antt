-- The results of changes of lists.
use Rattle.h41_laws_calculator.proofs.Chosen.{right_answer, made_of}
use Rattle.std.proofs.Common.{ℕ, List, length, Option, Some, None, Err, inl, inr, refl}
use Rattle.h41_codes.specs.declared.line.Line.{Line}
use Rattle.h41_ram.specs.RegisterMap.{RegisterMap}
use Rattle.h41_program.specs.Edits.{ChangeGives, EditGives, LoadsBehind, PlacesAreDetermined, before_end}
use Rattle.h41_program.specs.Edits.{count_before, edit_outcome, load_outcome, loaded_of}
use Rattle.h41_program.specs.Lines.{is_final_end}
use Rattle.h41_program.specs.ProgramBytes.{final_position, program_bytes}
use Rattle.h41_program.specs.ProgramLaws.{EachHasFirst, EachIsListed, EditsAreDetermined, LoadsAreDetermined, OneList}
use Rattle.h41_program.specs.declared.listed_line.ListedLine.{ListedLine}
use Rattle.h41_program.specs.declared.refusal.ProgramRefusal.TheVariants.{BrokenProgram}
use Rattle.h41_laws_words.proofs.Answering.{Has, has_one}
use Rattle.h41_laws_calculator.specs.ProgramChanges.{ChangeHasOneAnswer, EditHasOneOutcome, LoadHasOneOutcome}
use Rattle.h41_laws_calculator.proofs.Listed.{listed}

module _ (firsts : EachHasFirst) (each : EachIsListed) (lists : OneList) where
  changed : (memory : RegisterMap) (change : ListedLine → List Line) (position : ℕ) → Has (ChangeGives memory change position)
  changed memory change position =
      let all = lists memory 0 in record { answer = edit_outcome memory change position all.lines; right = (all.lines, all.from, refl) }

  edit : (memory : RegisterMap) (change : ℕ → ListedLine → List Line) (at : ℕ) → Has (EditGives memory change at)
  edit memory change at = elim (firsts (program_bytes memory) (final_position memory) at) [
    | inl found ↦
        let outcome = changed memory (change found.0.position) found.0.position in
        record { answer = outcome.answer; right = inl (found.0, found.1, outcome.right) }
    | inr none ↦ record { answer = Err BrokenProgram; right = inr (none, refl) }
  ]

  pub one_edit : EditsAreDetermined → EditHasOneOutcome
  one_edit determined memory change at = has_one (edit memory change at) (determined memory change at)

  load_behind : (memory : RegisterMap) (bytes : List ℕ) (lines : Option (List ListedLine)) → Has (LoadsBehind memory bytes lines)
  load_behind memory bytes None = record { answer = Err BrokenProgram; right = refl }
  load_behind memory bytes (Some lines) =
      made_of (λ found. load_outcome memory lines (loaded_of bytes found)) (listed each is_final_end bytes (length bytes) 0)

  pub one_load : LoadsAreDetermined → LoadHasOneOutcome
  one_load determined memory bytes =
      let all = lists memory 0 in
      let found = load_behind memory bytes (before_end all.lines) in
      has_one (record { answer = found.answer; right = (all.lines, all.from, found.right) }) (determined memory bytes)

pub one_change : {A : Type 0} → OneList → PlacesAreDetermined A → ChangeHasOneAnswer A
one_change lists determined answer memory at new first stands =
    let all = lists memory 0 in
    let after = lists new 0 in
    let found = answer (count_before first.position all.lines) after.lines in
    has_one (right_answer found
    (record { first = first; lines = all.lines; listed = after.lines; stands = stands; from = all.from; read = after.from; is = refl }))
    (determined answer memory at new)
