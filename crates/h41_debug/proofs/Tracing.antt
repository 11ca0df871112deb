-- Traces: every next step has exactly one description; a trace makes its steps, and steps have a trace.
use Rattle.std.proofs.Common.{◌≡◌, ℕ, zero, suc, ◌++◌, Bool, true, false, List, [], Option, Some, None, Result, refl, sym, ap, ◌∙◌, rules}
use Rattle.std.specs.Prelude.{MatchBool, MatchOption, codes}
use Rattle.h41_breakpoints.specs.declared.location.Location.{Location}
use Rattle.h41_breakpoints.specs.declared.location.Location.TheVariants.{Line, Word}
use Rattle.h41_positions.specs.declared.position.PlacedLine.{PlacedLine}
use Rattle.h41_positions.specs.declared.position.Position.{Position}
use Rattle.h41_program.specs.declared.refusal.ProgramRefusal.{ProgramRefusal}
use Rattle.h41_positions.specs.PositionLaws.{EachIsRead, IsReadOnce}
use Rattle.h41_positions.specs.Positions.{LineAt}
use Rattle.h41_pages.specs.PageMap.{PageMap}
use Rattle.h41_ram.specs.RegisterMap.{RegisterMap, is_sound}
use Rattle.h41_xrom.specs.Calculator.{CalculatorState}
use Rattle.h41_xrom.specs.CalculatorLaws.{StepIsDetermined, StepRefusalIsDetermined}
use Rattle.h41_xrom.specs.declared.refusal.CalculatorRefusal.{CalculatorRefusal}
use Rattle.h41_debug.specs.Bench.{BenchState, Steps, StepsInto, with_calculator}
use Rattle.h41_debug.specs.BenchLaws.{StatesAreDescribed, StepsAreTraced, TracesAreDetermined, TracesAreSteps}
use Rattle.h41_debug.specs.Positions.{location_of, position_text}
use Rattle.h41_debug.specs.Traces.{TellsAt, TellsLine, TellsStep, Traces, instruction_at, line_or_unknown, traced_line, unknown_text}

-- A TRACE MAKES ITS STEPS
abbrev Makes : ℕ → Type 0
Makes count =
    (s t : BenchState) (lines : List ℕ) (refusal : Option CalculatorRefusal) → Traces count s t lines refusal → Steps count s t refusal

made_after : (count : ℕ) → Makes count
    → (why : Option CalculatorRefusal) (s t : BenchState) (rest : List ℕ) (refusal : Option CalculatorRefusal)
    → MatchOption why (StepsInto (λ next. Traces count next t rest refusal) s) (λ why. (t ≡ s) × (rest ≡ []) × (refusal ≡ Some why))
    → MatchOption why (StepsInto (λ next. Steps count next t refusal) s) (λ why. (t ≡ s) × (refusal ≡ Some why))
made_after count makes None s t rest refusal p = (p.0, p.1, makes (with_calculator p.0 s) t rest refusal p.2)
made_after count makes (Some why) s t rest refusal p = (p.0, p.2)

pub traces_make : TracesAreSteps
traces_make zero s t lines refusal p = (p.0, p.2)
traces_make (suc count) s t lines refusal p = (p.4, p.5, made_after count (traces_make count) p.4 s t p.2 refusal p.6)

-- EVERY NEXT LINE HAS A DESCRIPTION, since every position can be read.
module _ (each : EachIsRead) where
  line_told : (pages : PageMap) (memory : RegisterMap) (at : Position) → (text : List ℕ) × TellsLine pages memory at text
  line_told pages memory at =
      let found = each pages memory at in
      elim (is_sound memory) as (λ sound. (text : List ℕ)
      × MatchBool sound ((answer : Result PlacedLine ProgramRefusal) × LineAt pages memory at answer × (text ≡ line_or_unknown answer))
      (text ≡ unknown_text)) [
        | true ↦ (line_or_unknown found.0, (found.0, found.1, refl))
        | false ↦ (unknown_text, refl)
      ]

  told_at : (at : Location) (s : CalculatorState) → (text : List ℕ) × TellsAt at s text
  told_at (Word address) s = (instruction_at s.nut.pages address, refl)
  told_at (Line position) s = line_told s.nut.pages s.nut.ram position

  pub step_told : StatesAreDescribed
  step_told s =
      let next = told_at (location_of s.calculator) s.calculator in (position_text s ++ codes " " ++ next.0, (next.0, next.1, refl))

  -- Steps have a trace.
  abbrev Told : ℕ → Type 0
  Told count =
      (s t : BenchState) (refusal : Option CalculatorRefusal) → Steps count s t refusal → (lines : List ℕ) × Traces count s t lines refusal

  told_after : (count : ℕ) → Told count → (why : Option CalculatorRefusal) (s t : BenchState) (refusal : Option CalculatorRefusal)
      → MatchOption why (StepsInto (λ next. Steps count next t refusal) s) (λ why. (t ≡ s) × (refusal ≡ Some why))
      → (rest : List ℕ) × MatchOption why (StepsInto (λ next. Traces count next t rest refusal) s)
      (λ why. (t ≡ s) × (rest ≡ []) × (refusal ≡ Some why))
  told_after count told None s t refusal p = search rules
  told_after count told (Some why) s t refusal p = ([], (p.0, refl, p.1))

  told_from : (count : ℕ) → Told count → (s t : BenchState) (text : List ℕ) (refusal : Option CalculatorRefusal) → TellsStep s text
      → Steps (suc count) s t refusal → (rest : List ℕ) × Traces (suc count) s t (traced_line text ++ rest) refusal
  told_from count told s t text refusal tells p =
      let more = told_after count told p.0 s t refusal p.2 in (more.0, (text, tells, more.0, refl, p.0, p.1, more.1))

  all_told : (count : ℕ) → Told count
  all_told zero s t refusal p = ([], (p.0, refl, p.1))
  all_told (suc count) s t refusal p =
      let text = step_told s in
      let all = told_from count (all_told count) s t text.0 refusal text.1 p in
      (traced_line text.0 ++ all.0, all.1)

  pub steps_traced : StepsAreTraced
  steps_traced count s t text refusal tells p = told_from count (all_told count) s t text refusal tells p

-- EVERY NEXT STEP HAS ONLY ONE DESCRIPTION
module _ (once : IsReadOnce) where
  same_told : (pages : PageMap) (memory : RegisterMap) (at : Position) (sound : Bool) (text other : List ℕ)
      → MatchBool sound ((answer : Result PlacedLine ProgramRefusal) × LineAt pages memory at answer × (text ≡ line_or_unknown answer))
      (text ≡ unknown_text)
      → MatchBool sound ((answer : Result PlacedLine ProgramRefusal) × LineAt pages memory at answer × (other ≡ line_or_unknown answer))
      (other ≡ unknown_text)
      → text ≡ other
  same_told pages memory at true text other p q = p.2 ∙ ap line_or_unknown (once.line pages memory at p.0 q.0 p.1 q.1) ∙ sym q.2
  same_told pages memory at false text other p q = p ∙ sym q

  same_at : (at : Location) (s : CalculatorState) (text other : List ℕ) → TellsAt at s text → TellsAt at s other → text ≡ other
  same_at (Word address) s text other p q = p ∙ sym q
  same_at (Line position) s text other p q = same_told s.nut.pages s.nut.ram position (is_sound s.nut.ram) text other p q

  same_step_told : (s : BenchState) (text other : List ℕ) → TellsStep s text → TellsStep s other → text ≡ other
  same_step_told s text other p q = search (rules, same_at)

  -- Steps have only one trace.
  module _ (same_refusal : StepRefusalIsDetermined) (same_step : StepIsDetermined) where
    abbrev Same : ℕ → Type 0
    Same count =
        (s t u : BenchState) (lines text : List ℕ) (a b : Option CalculatorRefusal) → Traces count s t lines a → Traces count s u text b
        → (t ≡ u) × (lines ≡ text) × (a ≡ b)

    abbrev After : ℕ → BenchState → BenchState → List ℕ → Option CalculatorRefusal → Option CalculatorRefusal → Type 0
    After count s t rest a why =
        MatchOption why (StepsInto (λ next. Traces count next t rest a) s) (λ why. (t ≡ s) × (rest ≡ []) × (a ≡ Some why))

    same_more : (count : ℕ) → Same count
        → (why : Option CalculatorRefusal) (s t u : BenchState) (rest more : List ℕ) (a b : Option CalculatorRefusal)
        → After count s t rest a why → After count s u more b why → (t ≡ u) × (rest ≡ more) × (a ≡ b)
    same_more count same None s t u rest more a b p q = search rules
    same_more count same (Some why) s t u rest more a b p q = (p.0 ∙ sym q.0, p.1 ∙ sym q.1, p.2 ∙ sym q.2)

    pub traces_determined : TracesAreDetermined
    traces_determined zero s t u lines text a b p q = (p.0 ∙ sym q.0, p.1 ∙ sym q.1, p.2 ∙ sym q.2)
    traces_determined (suc count) s t u lines text a b p q =
        let why : p.4 ≡ q.4 = same_refusal s.calculator p.4 q.4 p.5 q.5 in
        let more = same_more count (traces_determined count) q.4 s t u p.2 q.2 a b (rw (← why) p.6) q.6 in
        let first : p.0 ≡ q.0 = same_step_told s p.0 q.0 p.1 q.1 in (
          more.0,
          p.3 ∙ ap (λ (line : List ℕ). traced_line line ++ p.2) first ∙ ap (λ (rest : List ℕ). traced_line q.0 ++ rest) more.1 ∙ sym q.3,
          more.2,
        )
