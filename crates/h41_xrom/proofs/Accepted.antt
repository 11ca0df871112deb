-- What the action of an accepted key needs of memory.
use Rattle.std.proofs.Common.{◌≡◌, Bool, true, false, not, ◌&&◌, Option, None, refl, sym, subst}
use Rattle.std.specs.Bool.{then_some}
use Rattle.std.specs.Prelude.{IsTrue}
use Rattle.h41_codes.specs.declared.line.Line.{Line}
use Rattle.h41_codes.specs.declared.line.Line.TheVariants as lines
use Rattle.h41_keys.specs.StoredLines.{StoresLine, is_storable}
use Rattle.h41_keys.specs.declared.action.Action.{Action}
use Rattle.h41_keys.specs.declared.action.Action.TheVariants as actions
use Rattle.h41_program.specs.Lines.{is_inner}
use Rattle.h41_ram.specs.RegisterMap.{RegisterMap, is_sound}
use Rattle.h41_xrom.specs.Calculator.{CalculatorState, is_idle}
use Rattle.h41_xrom.specs.KeyActions.{key_refusal}
use Rattle.h41_xrom.specs.private.PrivateCalls.{IsAccepted, IsActed, IsQuiet}
use Rattle.h41_xrom.specs.declared.calculator.Caller.{Caller}
use Rattle.h41_xrom.specs.declared.calculator.Mode.{Mode}
use Rattle.h41_xrom.specs.declared.calculator.Mode.TheVariants as modes
use Rattle.h41_xrom.specs.declared.refusal.CalculatorRefusal.{CalculatorRefusal}
use Rattle.h41_xrom.specs.declared.refusal.CalculatorRefusal.TheVariants.{MemoryLost}

-- A line that keys store is one that programs can contain.
inner : (line : Line) → IsTrue (is_storable line) → IsTrue (is_inner line)
inner lines.Null is = is
inner line is = is

-- Memory is sound.
in_sound : (action : Action) (memory : RegisterMap) → IsTrue (is_sound memory) → StoresLine action → IsActed action memory
in_sound actions.Nothing memory sound stored = tt
in_sound actions.Stop memory sound stored = tt
in_sound (actions.Insert a) memory sound stored = (sound, inner a stored)
in_sound (actions.Replace a) memory sound stored = (sound, inner a stored)
in_sound action memory sound stored = sound

-- A program runs.
in_run : (action : Action) (memory : RegisterMap) → IsQuiet modes.Run action → IsActed action memory
in_run actions.Nothing memory quiet = tt
in_run actions.Stop memory quiet = tt
in_run action memory quiet = absurd quiet

-- A function runs.
in_micro : (caller : Caller) (action : Action) (memory : RegisterMap) → IsQuiet (modes.Micro caller) action → IsActed action memory
in_micro caller actions.Nothing memory quiet = tt
in_micro caller actions.Stop memory quiet = tt
in_micro caller action memory quiet = absurd quiet

is_kept : (sound : Bool) → ◌≡◌ {A = Option CalculatorRefusal} None (then_some (not sound) MemoryLost) → sound ≡ true
is_kept true free = refl
is_kept false free = cc

in_mode : (mode : Mode) (action : Action) (memory : RegisterMap)
    → ◌≡◌ {A = Option CalculatorRefusal} None (then_some (is_idle mode && not (is_sound memory)) MemoryLost)
    → StoresLine action → IsQuiet mode action → IsActed action memory
in_mode modes.Idle action memory free stored quiet = in_sound action memory (is_kept (is_sound memory) free) stored
in_mode modes.Run action memory free stored quiet = in_run action memory quiet
in_mode (modes.Micro caller) action memory free stored quiet = in_micro caller action memory quiet

pub acted_when : (action : Action) (from s : CalculatorState) → from ≡ s → ◌≡◌ {A = Option CalculatorRefusal} None (key_refusal s)
    → IsAccepted s action → IsActed action from.nut.ram
acted_when action from s is free accepted =
    subst (λ (of : CalculatorState). IsActed action of.nut.ram) (sym is)
    (in_mode s.mode action s.nut.ram free accepted.0 accepted.1)
