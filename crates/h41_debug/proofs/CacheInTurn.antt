-- The label cache after single steps in turn, and after keys in turn.
use Rattle.std.proofs.Common.{◌≡◌, ◌<◌, ℕ, zero, suc, ◌+◌, Bool, true, false, List, ◌∷◌, Option, Some, None, rules, refl, arith}
use Rattle.std.specs.Prelude.{if◌then◌else◌}
use Rattle.h41_debug.specs.KeptInTurn.{KeepsAfterKeys, KeepsAfterSteps, KeepsAfterTries, KeepsAfterRun, refusal_of}
use Rattle.h41_debug.specs.declared.run.Stop.{Stop}
use Rattle.h41_debug.specs.declared.run.Stop.TheVariants.{Break, Idle, Refused}
use Rattle.h41_debug.specs.private.Running.{runs_function, stop_after}
use Rattle.h41_debug.specs.Bench.{BenchState}
use Rattle.h41_keys.specs.declared.key.Key.{Key}
use Rattle.h41_xrom.specs.Calculator.{RefusesStep, Step, machine_of}
use Rattle.h41_xrom.specs.KeptLabels.{KeepsAfterKey, KeepsAfterLine, KeepsAfterStep, KeepsAfterStepIn}
use Rattle.h41_xrom.specs.KeyActions.{Presses}
use Rattle.h41_xrom.specs.LabelledCalculator.{LabelledCalculator}
use Rattle.h41_xrom.specs.declared.calculator.Mode.{Mode}
use Rattle.h41_xrom.specs.declared.calculator.Mode.TheVariants as modes
use Rattle.h41_focal.specs.OutsideCalls.{Program}
use Rattle.h41_xrom.specs.declared.refusal.CalculatorRefusal.{CalculatorRefusal}

-- While no function runs, a step is a line.
line_keeps : (m : Mode) (done : Bool) (s t : LabelledCalculator) → runs_function m ≡ false
    → KeepsAfterLine Program s.state.nut.pages (machine_of s.state) s.cache t.cache → KeepsAfterStepIn m done s t
line_keeps modes.Idle done s t none keeps = keeps
line_keeps modes.Run done s t none keeps = keeps
line_keeps (modes.Micro caller) done s t none keeps = cc

pub line_is_step : (done : Bool) (s t : LabelledCalculator) → runs_function s.state.mode ≡ false
    → KeepsAfterLine Program s.state.nut.pages (machine_of s.state) s.cache t.cache → KeepsAfterStep done s t
line_is_step done s t none keeps = line_keeps s.state.mode done s t none keeps

-- One more step.
pub one_more : (made : ℕ) (start s t : LabelledCalculator) → KeepsAfterSteps made start s → Step s.state t.state → KeepsAfterStep true s t
    → KeepsAfterSteps (made + 1) start t
one_more made start s t before step kept = let sum : suc made ≡ made + 1 = omega arith in rw (← sum) (s, before, step, kept)

-- A refused step after them.
pub one_tried : (made : ℕ) (start s t : LabelledCalculator) (why : CalculatorRefusal) → KeepsAfterSteps made start s
    → RefusesStep s.state (Some why) → t.state ≡ s.state → KeepsAfterStep false s t → KeepsAfterTries made (Some why) start t
one_tried made start s t why before refused same kept = (s, before, refused, same, kept)

-- Steps that follow others.
pub steps_add : (count more : ℕ) (s t u : LabelledCalculator) → KeepsAfterSteps count s t → KeepsAfterSteps more t u
    → KeepsAfterSteps (count + more) s u
steps_add count zero s t u before rest = search rules
steps_add count (suc more) s t u before (last, rest, step, kept) =
    let sum : suc (count + more) ≡ count + suc more = omega arith in
    rw (← sum) (last, steps_add count more s t last before rest, step, kept)

pub tries_add : (count more : ℕ) (s t u : LabelledCalculator) (why : CalculatorRefusal) → KeepsAfterSteps count s t
    → KeepsAfterTries more (Some why) t u → KeepsAfterTries (count + more) (Some why) s u
tries_add count more s t u why before (last, rest, refused, same, kept) = search (rules, steps_add)

-- A single step.
of_one : (s t : LabelledCalculator) → KeepsAfterSteps 1 s t → KeepsAfterStep true s t
of_one s t (last, same, step, kept) = rw (← same) kept

pub one_made : (s t : LabelledCalculator) (made : ℕ) → made ≡ 1 → KeepsAfterSteps made s t → KeepsAfterStep true s t
one_made s t made one steps = of_one s t (rw one at steps)

pub none_made : (s t : LabelledCalculator) (made : ℕ) (why : CalculatorRefusal) → made < 1 → KeepsAfterTries made (Some why) s t
    → KeepsAfterStep false s t
none_made s t zero why none (last, same, refused, stays, kept) = rw (← same) kept
none_made s t (suc made) why none tries = absurd (omega (arith, none))

-- Why a run ends.
pub unrefused : (stop : Stop) → ((why : CalculatorRefusal) → stop ≡ Refused why → ⊥) → refusal_of stop ≡ None
unrefused (Refused why) other = absurd (other why refl)
unrefused stop other = refl

-- A stop after a step is not for a refusal.
stopped : (behind idle set : Bool) (stop : Stop)
    → ◌≡◌ {A = Option Stop} (if behind then (if idle then Some Idle else (if set then Some Break else None)) else None) (Some stop)
    → refusal_of stop ≡ None
stopped true true set stop is = let same : Idle ≡ stop = cc in rw (← same) refl
stopped true false true stop is = let same : Break ≡ stop = cc in rw (← same) refl
stopped true false false stop is = absurd (let no : ⊥ = cc in no)
stopped false idle set stop is = absurd (let no : ⊥ = cc in no)

pub stops_unrefused : (behind : Bool) (s : BenchState) (stop : Stop) → stop_after behind s ≡ Some stop → refusal_of stop ≡ None
stops_unrefused behind s stop is = search (rules, stopped)

-- Steps that do not end for a refusal, and steps that do.
pub ended : (made : ℕ) (s t : LabelledCalculator) (stop : Stop) → refusal_of stop ≡ None → KeepsAfterSteps made s t
    → KeepsAfterRun made stop s t
ended made s t stop none steps = rw none steps

pub tries_as : (made : ℕ) (s t : LabelledCalculator) (told why : Option CalculatorRefusal) → told ≡ why → KeepsAfterTries made told s t
    → KeepsAfterTries made why s t
tries_as made s t told why is tries = rw (← is) tries

-- One key, and the keys after it.
pub key_more : (keys more : List Key) (key : Key) (s next t : LabelledCalculator) → keys ≡ key ∷ more → Presses key s.state next.state None
    → KeepsAfterKey true key s next → KeepsAfterKeys more next t → KeepsAfterKeys keys s t
key_more keys more key s next t left accepted kept rest = rw left (next, None, accepted, (kept, rest))

pub key_refused : (keys more : List Key) (key : Key) (s next : LabelledCalculator) (why : CalculatorRefusal) → keys ≡ key ∷ more
    → Presses key s.state next.state (Some why) → KeepsAfterKey false key s next → KeepsAfterKeys keys s next
key_refused keys more key s next why left refused kept = rw left (next, Some why, refused, (kept, refl))
