-- The label cache after single steps in turn, and after keys in turn.
use Rattle.std.specs.Prelude.{◌≡◌, ℕ, zero, suc, ◌<◌, true, false, List, [], ◌∷◌, MatchOption}
use Rattle.std.specs.Prelude.{Option, Some, None}
use Rattle.h41_debug.specs.declared.run.Stop.{Stop}
use Rattle.h41_debug.specs.declared.run.Stop.TheVariants.{Refused}
use Rattle.h41_keys.specs.declared.key.Key.{Key}
use Rattle.h41_xrom.specs.Calculator.{RefusesStep, Step}
use Rattle.h41_xrom.specs.KeptLabels.{KeepsAfterKey, KeepsAfterStep}
use Rattle.h41_xrom.specs.KeyActions.{Presses}
use Rattle.h41_xrom.specs.LabelledCalculator.{LabelledCalculator}
use Rattle.h41_xrom.specs.declared.refusal.CalculatorRefusal.{CalculatorRefusal}

-- The cache after a number of single steps, none of them refused.
abbrev pub KeepsAfterSteps : ℕ → (s t : LabelledCalculator) → Type 0
KeepsAfterSteps zero s t = t ≡ s
KeepsAfterSteps (suc count) s t =
    (last : LabelledCalculator)
    × KeepsAfterSteps count s last
    × Step last.state t.state
    × KeepsAfterStep true last t

-- The cache after a number of steps and, if there is a refusal, one more step that is refused. The
-- refused step changes only the cache.
abbrev pub KeepsAfterTries : ℕ → Option CalculatorRefusal → (s t : LabelledCalculator) → Type 0
KeepsAfterTries made None s t = KeepsAfterSteps made s t
KeepsAfterTries made (Some why) s t =
    (last : LabelledCalculator)
    × KeepsAfterSteps made s last
    × RefusesStep last.state (Some why)
    × (t.state ≡ last.state)
    × KeepsAfterStep false last t

-- The cache after at most this number of single steps, which end at the first that is refused.
abbrev pub KeepsAfterCount : ℕ → Option CalculatorRefusal → (s t : LabelledCalculator) → Type 0
KeepsAfterCount count None s t = KeepsAfterTries count None s t
KeepsAfterCount count (Some why) s t =
    (made : ℕ) × (made < count) × KeepsAfterTries made (Some why) s t

-- The refusal for which a run stops, if it stops for one.
abbrev pub refusal_of : Stop → Option CalculatorRefusal
refusal_of (Refused why) = Some why
refusal_of stop = None

-- The cache after a run: it makes its steps, and tries one more if it stops for a refusal.
abbrev pub KeepsAfterRun : ℕ → Stop → (s t : LabelledCalculator) → Type 0
KeepsAfterRun made stop s t = KeepsAfterTries made (refusal_of stop) s t

-- The cache after several keys, which end at the first that is refused.
abbrev pub KeepsAfterKeys : List Key → (s t : LabelledCalculator) → Type 0
KeepsAfterKeys [] s t = t ≡ s
KeepsAfterKeys (key ∷ keys) s t =
    (next : LabelledCalculator)
    × (why : Option CalculatorRefusal)
    × Presses key s.state next.state why
    × MatchOption why (KeepsAfterKey true key s next × KeepsAfterKeys keys next t)
    (λ why. KeepsAfterKey false key s next × (t ≡ next))
