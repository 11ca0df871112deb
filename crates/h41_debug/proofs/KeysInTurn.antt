-- How keys follow one another, and why a state determines their result.
use Rattle.std.proofs.Common.{◌≡◌, List, [], ◌∷◌, Option, Some, None, refl, sym, ◌∙◌}
use Rattle.std.specs.Prelude.{MatchOption}
use Rattle.h41_keys.specs.declared.key.Key.{Key}
use Rattle.h41_xrom.specs.declared.refusal.CalculatorRefusal.{CalculatorRefusal}
use Rattle.h41_xrom.specs.Calculator.{CalculatorState}
use Rattle.h41_xrom.specs.CalculatorLaws.{KeyIsDetermined}
use Rattle.h41_xrom.specs.KeyActions.{Presses}
use Rattle.h41_debug.specs.Bench.{BenchState, PressesInTurn, with_calculator}
use Rattle.h41_debug.specs.BenchLaws.{PressesAreDetermined}

-- One key, and those after it.
pub key_more : (keys more : List Key) (key : Key) (s t : BenchState) (next : CalculatorState) (refusal : Option CalculatorRefusal)
    → keys ≡ key ∷ more → Presses key s.calculator next None → PressesInTurn more (with_calculator next s) t refusal
    → PressesInTurn keys s t refusal
key_more keys more key s t next refusal left accepted rest = rw left (next, None, accepted, rest)

-- A refused key ends them.
pub key_refused : (keys more : List Key) (key : Key) (s : BenchState) (next : CalculatorState) (why : CalculatorRefusal) → keys ≡ key ∷ more
    → Presses key s.calculator next (Some why) → PressesInTurn keys s (with_calculator next s) (Some why)
key_refused keys more key s next why left refused = rw left (next, Some why, refused, (refl, refl))

module _ (same_key : KeyIsDetermined) where
  abbrev SameKeys : List Key → Type 0
  SameKeys keys =
      (s t u : BenchState) (a b : Option CalculatorRefusal) → PressesInTurn keys s t a → PressesInTurn keys s u b → (t ≡ u) × (a ≡ b)

  abbrev After : List Key → BenchState → CalculatorState → BenchState → Option CalculatorRefusal → Option CalculatorRefusal → Type 0
  After keys s next t a why =
      MatchOption why (PressesInTurn keys (with_calculator next s) t a) (λ why. (t ≡ with_calculator next s) × (a ≡ Some why))

  same_more : (keys : List Key) → SameKeys keys
      → (why : Option CalculatorRefusal) (s : BenchState) (next : CalculatorState) (t u : BenchState) (a b : Option CalculatorRefusal)
      → After keys s next t a why → After keys s next u b why → (t ≡ u) × (a ≡ b)
  same_more keys rest None s next t u a b p q = rest (with_calculator next s) t u a b p q
  same_more keys rest (Some why) s next t u a b p q = (p.0 ∙ sym q.0, p.1 ∙ sym q.1)

  same_keys : (keys : List Key) → SameKeys keys
  same_keys [] s t u a b p q = (p.0 ∙ sym q.0, p.1 ∙ sym q.1)
  same_keys (key ∷ keys) s t u a b p q =
      let both = same_key key s.calculator p.0 q.0 p.1 q.1 p.2 q.2 in
      same_more keys (same_keys keys) q.1 s q.0 t u a b (rw (← both.1, ← both.0) p.3) q.3

  pub presses_determined : PressesAreDetermined
  presses_determined keys s t u a b p q = same_keys keys s t u a b p q
