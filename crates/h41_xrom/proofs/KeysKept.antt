-- The label cache after a key.
use Rattle.std.proofs.Common.{◌≡◌, Bool, Some, None, refl, sym, subst, ◌∙◌}
use Rattle.h41_keys.specs.KeyPress as keyboard
use Rattle.h41_keys.specs.KeyPress.{presses}
use Rattle.h41_keys.specs.declared.action.Action.{Action}
use Rattle.h41_keys.specs.declared.input.Activity.{Activity}
use Rattle.h41_keys.specs.declared.input.Flags.{Flags}
use Rattle.h41_keys.specs.declared.input.Input.{Input}
use Rattle.h41_keys.specs.declared.key.Key.{Key}
use Rattle.h41_xrom.proofs.Pressing.{asked}
use Rattle.h41_xrom.specs.Calculator.{machine_of}
use Rattle.h41_xrom.specs.KeptLabels.{KeepsAfterAction, KeepsAfterKey, KeepsAfterMeaning}
use Rattle.h41_xrom.specs.KeyActions.{HasFlags, activity_of, key_refusal}
use Rattle.h41_xrom.specs.LabelledCalculator.{CacheState, LabelledCalculator}
use Rattle.h41_xrom.specs.declared.refusal.CalculatorRefusal.{CalculatorRefusal}

-- If memory is not sound, the key is refused.
pub lost_kept : (done : Bool) (action : Action) (input : Input) (s : LabelledCalculator) (why : CalculatorRefusal)
    → Some why ≡ key_refusal s.state → KeepsAfterMeaning done action input s s
lost_kept done action input s why refused = rw (sym refused) refl

-- The cache after its action, if that is the cache before.
abbrev pub KeepsIn : Bool → Action → Input → LabelledCalculator → CacheState → Type 0
KeepsIn done action input s after =
    KeepsAfterAction s.state.nut.pages input.program_mode done action (machine_of s.state) s.cache after

pub action_kept : (done told : Bool) (action : Action) (input : Input) (from s : LabelledCalculator) (after kept : CacheState) → from ≡ s
    → None ≡ key_refusal s.state → told ≡ done → after ≡ kept → KeepsIn told action input from kept
    → KeepsAfterMeaning done action input s (record { state = s.state; cache = after })
action_kept done told action input from s after kept is accepted same left keeps =
    rw (sym accepted)
    (subst (λ (of : LabelledCalculator). KeepsIn done action input of after) is
    (subst (λ (of : Bool). KeepsIn of action input from after) same
    (subst (λ (of : CacheState). KeepsIn told action input from of) (sym left) keeps)))

-- The cache after a key that has no meaning.
pub unknown_kept : (done : Bool) (from s : LabelledCalculator) (key : Key) (mode : Activity) (flags : Flags) → from ≡ s
    → mode ≡ activity_of s.state.mode → HasFlags s.state flags → presses from.state.input key mode flags ≡ None → KeepsAfterKey done key s s
unknown_kept done from s key mode flags is waits held none =
    (flags, held, rw (sym (asked from.state s.state key mode flags (λ i. (is i).state) waits) ∙ none) refl)

-- The cache after a key that has a meaning.
pub known_kept : (done : Bool) (from s t : LabelledCalculator) (key : Key) (mode : Activity) (flags : Flags) (action : Action)
    (after : Input) → from ≡ s → mode ≡ activity_of s.state.mode → HasFlags s.state flags
    → keyboard.Accepts from.state.input key mode flags action after → KeepsAfterMeaning done action after s t → KeepsAfterKey done key s t
known_kept done from s t key mode flags action after is waits held accepts keeps =
    (flags, held, rw (sym (asked from.state s.state key mode flags (λ i. (is i).state) waits) ∙ accepts) keeps)
