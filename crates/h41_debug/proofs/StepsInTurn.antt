-- How single steps follow one another, and why a state determines their result.
use Rattle.std.proofs.Common.{◌≡◌, ℕ, zero, suc, Option, Some, None, refl, sym, ◌∙◌, rules}
use Rattle.std.specs.Prelude.{MatchOption}
use Rattle.h41_xrom.specs.declared.refusal.CalculatorRefusal.{CalculatorRefusal}
use Rattle.h41_xrom.specs.Calculator.{RefusesStep}
use Rattle.h41_xrom.specs.CalculatorLaws.{StepIsDetermined, StepRefusalIsDetermined}
use Rattle.h41_debug.specs.Bench.{BenchState, Steps, StepsInto}
use Rattle.h41_debug.specs.BenchLaws.{StepsAreDetermined}

-- A refused step ends them.
pub steps-refused : (left more : ℕ) (s : BenchState) (why : CalculatorRefusal) → left ≡ suc more → RefusesStep s.calculator (Some why)
    → Steps left s s (Some why)
steps-refused left more s why size refused = rw size (Some why, refused, (refl, refl))

module _ (same_refusal : StepRefusalIsDetermined) (same_step : StepIsDetermined) where
  abbrev SameSteps : ℕ → Type 0
  SameSteps count = (s t u : BenchState) (a b : Option CalculatorRefusal) → Steps count s t a → Steps count s u b → (t ≡ u) × (a ≡ b)

  abbrev After : ℕ → BenchState → BenchState → Option CalculatorRefusal → Option CalculatorRefusal → Type 0
  After count s t a why = MatchOption why (StepsInto (λ next. Steps count next t a) s) (λ why. (t ≡ s) × (a ≡ Some why))

  same_more : (count : ℕ) → SameSteps count → (why : Option CalculatorRefusal) (s t u : BenchState) (a b : Option CalculatorRefusal)
      → After count s t a why → After count s u b why → (t ≡ u) × (a ≡ b)
  same_more count rest None s t u a b p q = search rules
  same_more count rest (Some why) s t u a b p q = (p.0 ∙ sym q.0, p.1 ∙ sym q.1)

  same_steps : (count : ℕ) → SameSteps count
  same_steps zero s t u a b p q = (p.0 ∙ sym q.0, p.1 ∙ sym q.1)
  same_steps (suc count) s t u a b p q =
      let why : p.0 ≡ q.0 = same_refusal s.calculator p.0 q.0 p.1 q.1 in
      same_more count (same_steps count) q.0 s t u a b (rw (← why) p.2) q.2

  pub steps_determined : StepsAreDetermined
  steps_determined count s t u a b p q = same_steps count s t u a b p q
