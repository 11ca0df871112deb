-- The result of a key that has a meaning, by the effect of its action.
use Rattle.std.proofs.Common.{◌≡◌, Some, None, Result, Ok, Err, refl, sym, subst, ap, ◌∙◌}
use Rattle.h41_positions.specs.FocalState.{Machine}
use Rattle.h41_keys.specs.declared.action.Action.{Action}
use Rattle.h41_keys.specs.declared.input.Input.{Input}
use Rattle.h41_keys.specs.declared.key.Key.{Key}
use Rattle.h41_focal.specs.MachineCalls.{left_of}
use Rattle.h41_focal.specs.Outcomes.{answer_of}
use Rattle.h41_focal.specs.declared.outcome.LineOutcome.{LineOutcome}
use Rattle.h41_xrom.specs.Calculator.{CalculatorState, after_answer, after_line, machine_of, with_machine}
use Rattle.h41_xrom.specs.KeyActions.{Acts, key_refusal, with_key_accepted}
use Rattle.h41_xrom.specs.private.PrivateCalls.{Accepts, acted_as}
use Rattle.h41_xrom.specs.declared.refusal.CalculatorRefusal.{CalculatorRefusal}

-- Memory is lost.
pub key_lost : (key : Key) (input : Input) (action : Action) (s : CalculatorState) (why : CalculatorRefusal)
    → Some why ≡ key_refusal s → Accepts key input action s s (Some why)
key_lost key input action s why e = (Err why, rw (sym e) refl, (refl, refl))

-- The action of the key in the previous state.
abbrev pub ActsIn : Input → Action → CalculatorState → Machine → Result LineOutcome CalculatorRefusal → Type 0
ActsIn input action s new result = Acts s.nut.pages input.program_mode action (machine_of s) (acted_as new result)

-- The action is refused.
pub key_failed : (key : Key) (input : Input) (action : Action) (from s : CalculatorState) (new : Machine) (why : CalculatorRefusal)
    → from ≡ s → None ≡ key_refusal s → ActsIn input action from new (Err why)
    → new ≡ machine_of from → Accepts key input action s (with_machine new from) (Some why)
key_failed key input action from s new why is accepted acts same = (
  Err why,
  rw (sym accepted) (Err why, subst (λ (of : CalculatorState). ActsIn input action of new (Err why)) is acts, refl),
  (ap (λ (of : Machine). with_machine of from) same ∙ is, refl),
)

-- The action is performed, followed by what remains to be done.
pub key_done : (key : Key) (input : Input) (action : Action) (from s t : CalculatorState) (new : Machine) (outcome : LineOutcome)
    → from ≡ s → None ≡ key_refusal s → ActsIn input action from new (Ok outcome)
    → t ≡ after_answer (answer_of new.memory outcome) (with_key_accepted key input (with_machine new from))
    → Accepts key input action s t None
key_done key input action from s t new outcome is accepted acts left = (
  Ok (after_line (with_key_accepted key input s) (left_of new outcome)),
  rw (sym accepted) (Ok (left_of new outcome), subst (λ (of : CalculatorState). ActsIn input action of new (Ok outcome)) is acts, refl),
  (left ∙ ap (λ (of : CalculatorState). after_line (with_key_accepted key input of) (left_of new outcome)) is, refl),
)
