-- A pressed key, by the result of the keyboard: while a program or a function runs, it does nothing but stop a program.
use Rattle.std.proofs.Common.{◌≡◌, Option, Some, None, Err, refl, sym, subst, ap, ◌∙◌}
use Rattle.h41_keys.specs.Keyboard.{row_of}
use Rattle.h41_keys.specs.KeyPress as keyboard
use Rattle.h41_keys.specs.KeyPress.{does, presses}
use Rattle.h41_keys.specs.declared.action.Action.{Action}
use Rattle.h41_keys.specs.declared.action.Action.TheVariants as actions
use Rattle.h41_keys.specs.declared.input.Flags.{Flags}
use Rattle.h41_keys.specs.declared.input.Input.{Input}
use Rattle.h41_keys.specs.declared.input.Activity.{Activity}
use Rattle.h41_keys.specs.declared.input.Pressed.{Pressed}
use Rattle.h41_keys.specs.declared.key.Key.{Key}
use Rattle.h41_keys.specs.declared.meaning.Meaning.{Meaning}
use Rattle.h41_keys.specs.declared.meaning.Meaning.TheVariants as means
use Rattle.h41_xrom.specs.Calculator.{CalculatorState}
use Rattle.h41_xrom.specs.KeyActions.{HasFlags, Presses, activity_of, press_of}
use Rattle.h41_xrom.specs.private.PrivateCalls.{Accepts, IsQuiet}
use Rattle.h41_xrom.specs.declared.calculator.Mode.{Mode}
use Rattle.h41_xrom.specs.declared.calculator.Mode.TheVariants as modes
use Rattle.h41_xrom.specs.declared.calculator.Caller.{Caller}
use Rattle.h41_xrom.specs.declared.refusal.CalculatorRefusal.{CalculatorRefusal}
use Rattle.h41_xrom.specs.declared.refusal.CalculatorRefusal.TheVariants.{KeyNotHeld}

-- The action that a key's meaning leads to.
same_action : (own action : Action) (input after : Input) → ◌≡◌ {A = Option Pressed} (Some (does own input)) (Some (does action after))
    → own ≡ action
same_action own action input after is =
    let same : does own input ≡ does action after = cc in ap (λ (of : Pressed). of.action) same

quiet_by : (mode : Mode) (own action : Action) (input after : Input) → IsQuiet mode own
    → ◌≡◌ {A = Option Pressed} (Some (does own input)) (Some (does action after)) → IsQuiet mode action
quiet_by mode own action input after quiet is = subst (IsQuiet mode) (same_action own action input after is) quiet

never : (mode : Mode) (action : Action) (after : Input) → ◌≡◌ {A = Option Pressed} None (Some (does action after)) → IsQuiet mode action
never mode action after is = absurd (let no : ⊥ = cc in no)

-- A program runs.
quiet_in_run : (meaning : Meaning) (input : Input) (action : Action) (after : Input)
    → keyboard.while_running input meaning ≡ Some (does action after) → IsQuiet modes.Run action
quiet_in_run means.Nothing input action after is = never modes.Run action after is
quiet_in_run means.RunStop input action after is = quiet_by modes.Run actions.Stop action input after tt is
quiet_in_run meaning input action after is = quiet_by modes.Run actions.Nothing action input after tt is

-- A function runs.
quiet_in_micro : (caller : Caller) (meaning : Meaning) (input : Input) (action : Action) (after : Input)
    → keyboard.while_in_microcode input meaning ≡ Some (does action after) → IsQuiet (modes.Micro caller) action
quiet_in_micro caller means.Nothing input action after is = never (modes.Micro caller) action after is
quiet_in_micro caller meaning input action after is = quiet_by (modes.Micro caller) actions.Nothing action input after tt is

quiet : (mode : Mode) (input : Input) (key : Key) (flags : Flags) (action : Action) (after : Input)
    → presses input key (activity_of mode) flags ≡ Some (does action after) → IsQuiet mode action
quiet modes.Idle input key flags action after is = tt
quiet modes.Run input key flags action after is = quiet_in_run (row_of key).plain input action after is
quiet (modes.Micro caller) input key flags action after is = quiet_in_micro caller (row_of key).plain input action after is

-- What the keyboard was given.
pub asked : (from s : CalculatorState) (key : Key) (mode : Activity) (flags : Flags) → from ≡ s → mode ≡ activity_of s.mode
    → presses from.input key mode flags ≡ press_of s key flags
asked from s key mode flags is waits = λ i. presses (is i).input key (waits i) flags

pub key_quiet : (input : Input) (s : CalculatorState) (key : Key)
    (mode : Activity) (flags : Flags) (action : Action) (after : Input)
    → mode ≡ activity_of s.mode → keyboard.Accepts input key mode flags action after → IsQuiet s.mode action
key_quiet input s key mode flags action after waits accepts =
    quiet s.mode input key flags action after (ap (λ (of : Activity). presses input key of flags) (sym waits) ∙ accepts)

-- The key has no meaning.
pub key_unknown : (from s : CalculatorState) (key : Key) (mode : Activity) (flags : Flags) (why : CalculatorRefusal) → from ≡ s
    → mode ≡ activity_of s.mode → HasFlags s flags → presses from.input key mode flags ≡ None → why ≡ KeyNotHeld
    → Presses key s s (Some why)
key_unknown from s key mode flags why is waits held none same =
    (flags, held, Err KeyNotHeld, rw (sym (asked from s key mode flags is waits) ∙ none) refl, (refl, ap Some same))

-- The key has a meaning.
pub key_known : (from s t : CalculatorState) (key : Key) (mode : Activity)
    (flags : Flags) (action : Action) (after : Input) (refusal : Option CalculatorRefusal)
    → from ≡ s → mode ≡ activity_of s.mode → HasFlags s flags → keyboard.Accepts from.input key mode flags action after
    → Accepts key after action s t refusal → Presses key s t refusal
key_known from s t key mode flags action after refusal is waits held accepts (made, makes, becomes) =
    (flags, held, made, rw (sym (asked from s key mode flags is waits) ∙ accepts) makes, becomes)
