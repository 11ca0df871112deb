-- The outcomes of lines.
use Rattle.std.proofs.Common.{◌≡◌, ℕ, Bool, true, false, List, Option, Some, None, Result, Ok, Err, MatchBool, inl, inr, refl}
use Rattle.h41_codes.specs.declared.functions.Function.{Function}
use Rattle.h41_codes.specs.declared.line.Line.{Line}
use Rattle.h41_codes.specs.declared.line.Line.TheVariants.{Module, Plain}
use Rattle.h41_focal.specs.Destinations.{Destination, Halts, HasNoLabel, HasNoLine, Manner, Stepped, Typed}
use Rattle.h41_focal.specs.LineLaws.{LineIsDetermined, StepIsDetermined, TypedIsDetermined}
use Rattle.h41_focal.specs.LineStep.{Applies, AppliesTo, AppliesWith, CarriesOut, ComputesIn, Ends, Left, Stands, StandsAt, StepsAs}
use Rattle.h41_focal.specs.LineStep.{StepsLine, TakesLine, TypesLine, Works, answer_of_showing, left_by_fault, named_by, with_row}
use Rattle.h41_focal.specs.OutsideCalls as sources
use Rattle.h41_focal.specs.OutsideCalls.{CallsName, CarriesLine, CarriesNamed, CarriesStanding, CarriesWhole, GoesOn, GoesOnFrom}
use Rattle.h41_focal.specs.OutsideCalls.{LineSource}
use Rattle.h41_positions.specs.FocalState.{Machine}
use Rattle.h41_focal.specs.Outcomes.{Answer}
use Rattle.h41_focal.specs.Outcomes as answers
use Rattle.h41_pages.specs.FunctionTables.{function_of_name}
use Rattle.h41_focal.specs.declared.refusal.FocalRefusal.{FocalRefusal}
use Rattle.h41_focal.specs.declared.refusal.FocalRefusal.TheVariants.{BrokenProgram, MemoryLost, NotInProfile}
use Rattle.h41_positions.specs.PositionLaws.{LinesHaveNext}
use Rattle.h41_positions.specs.Positions.{LineAt, LocalFrom, StartOf}
use Rattle.h41_positions.specs.declared.position.PlacedLine.{PlacedLine}
use Rattle.h41_positions.specs.declared.position.Position.{Position}
use Rattle.h41_program.specs.declared.refusal.ProgramRefusal.{ProgramRefusal}
use Rattle.h41_program.specs.declared.refusal.ProgramRefusal.TheVariants as refusals
use Rattle.h41_ram.specs.RegisterMap.{RegisterMap, is_sound, zeros}
use Rattle.h41_rows.specs.LineRows.{row_of}
use Rattle.h41_rows.specs.Operands.{Meant, meant_of}
use Rattle.h41_rows.specs.Places.{are_numbers}
use Rattle.h41_rows.specs.Profile.{is_left_out}
use Rattle.h41_rows.specs.Rows as rows
use Rattle.h41_rows.specs.Values.{Value}
use Rattle.h41_rows.specs.declared.fault.LineFault.{LineFault}
use Rattle.h41_rows.specs.declared.fault.LineFault.TheVariants.{AlphaData, Nonexistent}
use Rattle.h41_laws_words.proofs.Answering.{Has, has_one}
use Rattle.h41_laws_calculator.specs.ProgramAnswers.{MemoryHasOneAnswer, PositionHasOne, PositionHasOneEach}
use Rattle.h41_laws_calculator.specs.LineValues.{ValueHasOneRegister}
use Rattle.h41_laws_calculator.specs.LineEnds.{LineHasOneEnd, NameHasOneFunction}
use Rattle.h41_laws_calculator.specs.LineOutcomes.{StepHasOneOutcome, TypedHasOneOutcome}
use Rattle.h41_laws_calculator.proofs.Chosen.{alone, either, one_there, through}
use Rattle.h41_laws_calculator.proofs.Leads.{NextOrNone, goes}
use Rattle.h41_pages.specs.PageMap.{PageMap}

-- A test must hold for one answer.
where_true : {A : Type 0} (t : Bool) (Then : A → Type 0) (other : A) → Has Then → Has (λ answer. MatchBool t (Then answer) (answer ≡ other))
where_true t Then other found = either t Then (λ answer. answer ≡ other) found (alone other)

ends : (how : Manner) (old new : Machine) (answer : Answer) (to : Destination) → Has (Ends how old new answer to)
ends Typed old new answer (Halts start) = alone _
ends how old new answer HasNoLabel = alone (Ok (left_by_fault how old Nonexistent))
ends how old new answer HasNoLine = alone (Err BrokenProgram)
ends how old new answer to = alone _

module _ (values : ValueHasOneRegister) (next_or_none : NextOrNone) (onward : LinesHaveNext) (lines : PositionHasOne LineAt)
    (starts : PositionHasOne StartOf) (locals : PositionHasOneEach LocalFrom) (names : MemoryHasOneAnswer (Option ℕ)) where
  computes : (memory : RegisterMap) (named : ℕ) (value : Option Value) → Has (ComputesIn memory named value)
  computes memory named None = alone (Ok zeros)
  computes memory named (Some value) = let found = values value memory named in record { answer = found.answer; right = found.right }

  works : (memory : RegisterMap) (named : ℕ) (row : rows.LineRow) → Has (Works memory named row)
  works memory named row =
      where_true (are_numbers memory named (rows.numbers_of row)) (ComputesIn memory named row.value) (Err AlphaData)
      (computes memory named row.value)

  applies_with : (pages : PageMap) (how : Manner) (row : rows.LineRow) (named : ℕ) (machine : Machine) (result : Result (List ℕ) LineFault)
      → Has (AppliesWith pages how row named machine result)
  applies_with pages how row named machine (Err fault) = alone (Ok (left_by_fault how machine fault))
  applies_with pages how row named machine (Ok result) =
      through (goes next_or_none starts locals names pages how row.goes machine.memory named machine.focal.position machine.focal.returns)
      (λ to _. ends how machine (with_row row named result machine) (answer_of_showing machine.memory named row.shows row.ends) to)

  applies : (pages : PageMap) (how : Manner) (row : rows.LineRow) (named : ℕ) (machine : Machine)
      → Has (Applies pages how row named machine)
  applies pages how row named machine =
      through (works machine.memory named row) (λ result _. applies_with pages how row named machine result)

  applies_to : (pages : PageMap) (how : Manner) (line : Line) (machine : Machine) (meant : Result Meant LineFault)
      → Has (AppliesTo pages how line machine meant)
  applies_to pages how line machine (Err fault) = alone (Ok (left_by_fault how machine fault))
  applies_to pages how line machine (Ok meant) = applies pages how (row_of line meant) (named_by meant) machine

  carries_out : (pages : PageMap) (how : Manner) (line : Line) (machine : Machine) → Has (CarriesOut pages how line machine)
  carries_out pages how (Module number entry) machine = alone _
  carries_out pages how line machine = applies_to pages how line machine (meant_of machine.memory line)

  takes : (pages : PageMap) (how : Manner) (line : Line) (machine : Machine) → Has (TakesLine pages how line machine)
  takes pages how line machine =
      either (is_left_out line) (λ carried. carried ≡ Err NotInProfile) (CarriesOut pages how line machine) (alone (Err NotInProfile))
      (carries_out pages how line machine)

  types : (pages : PageMap) (line : Line) (machine : Machine) → Has (TypesLine pages line machine)
  types pages line machine =
      where_true (is_sound machine.memory) (TakesLine pages Typed line machine) (Err MemoryLost) (takes pages Typed line machine)

  stands_in : (pages : PageMap) (memory : RegisterMap) (at : Position) (first : Result PlacedLine ProgramRefusal) → is_sound memory ≡ true
      → LineAt pages memory at first → Has (StandsAt pages memory at)
  stands_in pages memory at (Ok first) sound stands = elim (next_or_none pages memory at) [
    | inl found ↦ record { answer = Ok (first.line, found.0); right = (sound, (first, stands, refl), found.1) }
    | inr none ↦ absurd (onward pages memory at first refusals.BrokenProgram stands none)
  ]
  stands_in pages memory at (Err why) sound none = record { answer = Err BrokenProgram; right = rw sound (refl, why, none) }

  stands_at : (pages : PageMap) (sound : Bool) (memory : RegisterMap) (at : Position) → is_sound memory ≡ sound
      → Has (StandsAt pages memory at)
  stands_at pages true memory at is = let first = lines pages memory at in stands_in pages memory at first.answer is first.right
  stands_at pages false memory at is = record { answer = Err MemoryLost; right = rw is refl }

  -- What is done with the line at a position.
  by_standing : {A : Type 0} (pages : PageMap) (does : Result (Line × Position) FocalRefusal → A → Type 0)
      → ((standing : Result (Line × Position) FocalRefusal) → Has (does standing)) → (machine : Machine)
      → Has (λ done. (standing : Result (Line × Position) FocalRefusal) × Stands pages machine standing × does standing done)
  by_standing pages does each machine =
      through (stands_at pages (is_sound machine.memory) machine.memory machine.focal.position refl) (λ standing _. each standing)

  steps_as : (pages : PageMap) (machine : Machine) (standing : Result (Line × Position) FocalRefusal) → Has (StepsAs pages machine standing)
  steps_as pages machine (Ok (line, next)) = takes pages (Stepped next) line machine
  steps_as pages machine (Err refusal) = alone (Err refusal)

  steps : (pages : PageMap) (machine : Machine) → Has (StepsLine pages machine)
  steps pages machine = by_standing pages (StepsAs pages machine) (steps_as pages machine) machine

  pub one_step : StepIsDetermined → StepHasOneOutcome
  one_step determined pages machine = has_one (steps pages machine) (determined pages machine)

  pub one_typed : TypedIsDetermined → TypedHasOneOutcome
  one_typed determined pages line machine = has_one (types pages line machine) (determined pages line machine)

  -- What a line calls outside program memory, given that a name names one function, or none.
  module _ (functions : NameHasOneFunction) where
    carries_named : (pages : PageMap) (how : Manner) (function : Option Function) (machine : Machine)
        → Has (CarriesNamed pages how function machine)
    carries_named pages how (Some function) machine = takes pages how (Plain function) machine
    carries_named pages how None machine = alone (Ok (left_by_fault how machine Nonexistent))

    calls_name : (pages : PageMap) (how : Manner) (numbers : Option (ℕ × ℕ)) (name : List ℕ) (machine : Machine)
        → Has (CallsName pages how numbers name machine)
    calls_name pages how (Some numbers) name machine = alone _
    calls_name pages how None name machine = through (one_there (functions name)) (λ function _. carries_named pages how function machine)

    goes_on : (pages : PageMap) (how : Manner) (machine : Machine) (left : Left) (answer : Answer)
        → Has (GoesOn pages how machine left answer)
    goes_on pages how machine left (answers.Calls number entry) = alone _
    goes_on pages how machine left (answers.Seeks name) = calls_name pages how (function_of_name pages name) name machine
    goes_on pages how machine left answer = alone (Ok left)

    goes_on_from : (pages : PageMap) (how : Manner) (machine : Machine) (own : Result Left FocalRefusal)
        → Has (GoesOnFrom pages how machine own)
    goes_on_from pages how machine (Ok left) = goes_on pages how machine left left.answer
    goes_on_from pages how machine (Err refusal) = alone (Err refusal)

    carries_whole : (pages : PageMap) (how : Manner) (line : Line) (machine : Machine) → Has (CarriesWhole pages how line machine)
    carries_whole pages how line machine = through (takes pages how line machine) (λ own _. goes_on_from pages how machine own)

    carries_standing : (pages : PageMap) (machine : Machine) (standing : Result (Line × Position) FocalRefusal)
        → Has (CarriesStanding pages machine standing)
    carries_standing pages machine (Ok (line, next)) = carries_whole pages (Stepped next) line machine
    carries_standing pages machine (Err refusal) = alone (Err refusal)

    carries_line : (source : LineSource) (pages : PageMap) (machine : Machine) → Has (CarriesLine source pages machine)
    carries_line sources.Program pages machine = by_standing pages (CarriesStanding pages machine) (carries_standing pages machine) machine
    carries_line (sources.Keys line) pages machine =
        where_true (is_sound machine.memory) (CarriesWhole pages Typed line machine) (Err MemoryLost)
        (carries_whole pages Typed line machine)

    pub one_end : LineIsDetermined → LineHasOneEnd
    one_end determined source pages machine = has_one (carries_line source pages machine) (determined source pages machine)
