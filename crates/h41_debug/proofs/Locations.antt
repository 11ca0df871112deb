-- Where the calculator is, by its mode.
use Rattle.std.proofs.Common.{◌≡◌, ℕ, true, refl, sym, ap, ◌∙◌}
use Rattle.h41_breakpoints.specs.declared.location.Location.TheVariants.{Line, Word}
use Rattle.h41_debug.specs.Positions.{location_in, location_of}
use Rattle.h41_debug.specs.private.Running.{runs_function}
use Rattle.h41_positions.specs.declared.position.Position.{Position}
use Rattle.h41_xrom.specs.Calculator.{CalculatorState}
use Rattle.h41_xrom.specs.declared.calculator.Caller.{Caller}
use Rattle.h41_xrom.specs.declared.calculator.Mode.{Mode}
use Rattle.h41_xrom.specs.declared.calculator.Mode.TheVariants as modes

pub word_place : (s t : CalculatorState) (m : Mode) (caller : Caller) (at : ℕ) → s ≡ t → m ≡ s.mode → m ≡ modes.Micro caller
    → at ≡ s.nut.processor.pc → Word at ≡ location_of t
word_place s t m caller at is mode micro pc = rw (← is) (ap Word pc ∙ ap (location_in s) (sym micro ∙ mode))

line_in : (s : CalculatorState) (m : Mode) → ((caller : Caller) → m ≡ modes.Micro caller → ⊥) → Line s.focal.position ≡ location_in s m
line_in s modes.Idle other = refl
line_in s modes.Run other = refl
line_in s (modes.Micro caller) other = absurd (other caller refl)

pub line_place : (s t : CalculatorState) (m : Mode) (at : Position) → s ≡ t → m ≡ s.mode
    → ((caller : Caller) → m ≡ modes.Micro caller → ⊥) → at ≡ s.focal.position → Line at ≡ location_of t
line_place s t m at is mode other position = rw (← is) (ap Line position ∙ line_in s m other ∙ ap (location_in s) mode)

-- A function runs.
word_in : (s : CalculatorState) (m : Mode) → runs_function m ≡ true → Word s.nut.processor.pc ≡ location_in s m
word_in s modes.Idle runs = cc
word_in s modes.Run runs = cc
word_in s (modes.Micro caller) runs = refl

pub word_running : (s t : CalculatorState) (at : ℕ) → s ≡ t → runs_function t.mode ≡ true → at ≡ s.nut.processor.pc
    → Word at ≡ location_of t
word_running s t at is runs pc = ap Word (pc ∙ ap (λ (u : CalculatorState). u.nut.processor.pc) is) ∙ word_in t t.mode runs
