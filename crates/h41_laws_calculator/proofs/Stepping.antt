-- The result of a step, or why it is refused.
use Rattle.std.proofs.Common.{◌≡◌, Option, Some, None, Result, Ok, Err, MatchOption, refl, rules}
use Rattle.std.specs.Prelude.{option_map}
use Rattle.std.specs.Result.{result_err}
use Rattle.h41_focal.specs.declared.refusal.FocalRefusal.{FocalRefusal}
use Rattle.h41_nut.specs.WordStep.{refused}
use Rattle.h41_nut.specs.declared.refusal.WordRefusal.{WordRefusal}
use Rattle.h41_xrom.specs.Calculator.{CalculatorState, CarriesHere, RefusesLine, RefusesStep, RefusesStepIn, Step, StepIn, StepsByLine}
use Rattle.h41_xrom.specs.Calculator.{after_line, after_word, machine_of, not_typing, of_line}
use Rattle.h41_xrom.specs.CalculatorLaws.{StepIsDetermined, StepRefusalIsDetermined}
use Rattle.h41_focal.specs.LineStep as lines
use Rattle.h41_xrom.specs.declared.calculator.Mode.{Mode}
use Rattle.h41_xrom.specs.declared.calculator.Mode.TheVariants as modes
use Rattle.h41_focal.specs.OutsideCalls as sources
use Rattle.h41_xrom.specs.declared.refusal.CalculatorRefusal.{CalculatorRefusal}
use Rattle.h41_xrom.specs.declared.refusal.CalculatorRefusal.TheVariants.{Word}
use Rattle.h41_laws_words.specs.HasOne.{HasOne}
use Rattle.h41_laws_words.proofs.Answering.{Has, has_one}
use Rattle.h41_laws_words.specs.WordAnswers.{AcceptedWordHasOneChange, HasRegisters}
use Rattle.h41_laws_calculator.specs.CalculatorAnswers.{AcceptedStepHasOneState, StepHasOneOutcome, StepHasOneRefusal, StepLeaves}
use Rattle.h41_laws_calculator.specs.LineEnds.{LineHasOneEnd}
use Rattle.h41_laws_calculator.proofs.Chosen.{alone, made_of, same_pair}

-- A refusal and a state as a pair.
abbrev Left : Type 0
Left = Option CalculatorRefusal × CalculatorState

abbrev left : Option CalculatorRefusal → CalculatorState → Left
left why t = (why, t)

not_refused : (why : Option WordRefusal) → None ≡ option_map Word why → why ≡ None
not_refused None is = refl
not_refused (Some why) is = absurd (let never : ◌≡◌ {A = Option CalculatorRefusal} None (Some (Word why)) = is in cc)

not_both : (why : CalculatorRefusal) → ◌≡◌ {A = Option CalculatorRefusal} None (Some why) → ⊥
not_both why is = cc

module _ (ends : LineHasOneEnd) where
  here : (s : CalculatorState) → Has (CarriesHere sources.Program s)
  here s = let ended = ends sources.Program s.nut.pages (machine_of s) in record { answer = ended.answer; right = ended.right }

  line_refusal : (s : CalculatorState) → Has (RefusesLine s)
  line_refusal s = made_of (λ found. option_map of_line (result_err found)) (here s)

  refusal_in : (mode : Mode) (s : CalculatorState) → Has (RefusesStepIn mode s)
  refusal_in modes.Idle s = line_refusal s
  refusal_in modes.Run s = line_refusal s
  refusal_in (modes.Micro caller) s = alone (option_map Word (refused s.nut))

  pub one_refusal : StepRefusalIsDetermined → StepHasOneRefusal
  one_refusal determined s = has_one (refusal_in s.mode s) (determined s)

  -- A line that is not refused has an end.
  line_behind : (s : CalculatorState) (end : Result lines.Left FocalRefusal) → CarriesHere sources.Program s end
      → None ≡ option_map of_line (result_err end) → Has (StepsByLine s)
  line_behind s (Ok end) carries none = record { answer = after_line (not_typing s) end; right = (end, carries, refl) }
  line_behind s (Err why) carries none = absurd (not_both (of_line why) none)

  line_state : (s : CalculatorState) → RefusesLine s None → Has (StepsByLine s)
  line_state s none = line_behind s none.0 none.1 none.2

  module _ (words : AcceptedWordHasOneChange) where
    state_in : (mode : Mode) (s : CalculatorState) → HasRegisters s.nut.processor → RefusesStepIn mode s None → Has (StepIn mode s)
    state_in modes.Idle s has none = line_state s none
    state_in modes.Run s has none = line_state s none
    state_in (modes.Micro caller) s has none =
        let change = words s.nut has (not_refused (refused s.nut) none) in
        record { answer = after_word caller s change.answer; right = (change.right, refl) }

    pub one_state : StepIsDetermined → AcceptedStepHasOneState
    one_state determined s has none = has_one (state_in s.mode s has none) (determined s)

-- Both as a pair.
module _ (refusals : StepHasOneRefusal) (states : AcceptedStepHasOneState) where
  abbrev Leaves : CalculatorState → Option CalculatorRefusal → CalculatorState → Type 0
  Leaves s why t = MatchOption why (Step s t) (λ why. t ≡ s)

  only_by : (s : CalculatorState) (why : Option CalculatorRefusal) (answer : CalculatorState)
      → ((t : CalculatorState) → Leaves s why t → t ≡ answer)
      → ((other : Option CalculatorRefusal) → RefusesStep s other → other ≡ why)
      → (other : Left) → StepLeaves s other → other ≡ left why answer
  only_by s why answer one same other leaves = search (rules, same_pair)

  outcome_by : (s : CalculatorState) → HasRegisters s.nut.processor → (why : Option CalculatorRefusal) → RefusesStep s why
      → ((other : Option CalculatorRefusal) → RefusesStep s other → other ≡ why) → HasOne (StepLeaves s)
  outcome_by s has None refuses same =
      let state = states s has refuses in
      record { answer = left None state.answer; right = (refuses, state.right); only = only_by s None state.answer state.only same }
  outcome_by s has (Some why) refuses same =
      record { answer = left (Some why) s; right = (refuses, refl); only = only_by s (Some why) s (λ t is. is) same }

  pub one_outcome : StepHasOneOutcome
  one_outcome s has = let found = refusals s in outcome_by s has found.answer found.right found.only
