-- Why a state determines its step, and a state and bytes determine a load.
use Rattle.std.proofs.Common.{◌≡◌, ℕ, List, Option, Some, None, Result, Ok, Err, sym, ap, ◌∙◌}
use Rattle.std.specs.Prelude.{MatchOption, option_map}
use Rattle.std.specs.Result.{result_err, result_unwrap_or}
use Rattle.h41_focal.specs.LineLaws.{LineIsDetermined}
use Rattle.h41_focal.specs.LineStep.{Left}
use Rattle.h41_focal.specs.OutsideCalls as sources
use Rattle.h41_focal.specs.declared.refusal.FocalRefusal.{FocalRefusal}
use Rattle.h41_nut.specs.ProcessorLaws.{MicroIsDetermined}
use Rattle.h41_program.specs.declared.refusal.ProgramRefusal as program
use Rattle.h41_program.specs.Edits.{LoadGives}
use Rattle.h41_program.specs.ProgramLaws.{LoadsAreDetermined}
use Rattle.h41_ram.specs.RegisterMap.{RegisterMap}
use Rattle.h41_xrom.specs.Calculator.{CalculatorState, CarriesHere, RefusesLine, RefusesStepIn, StepIn, StepsByLine, after_line, after_word}
use Rattle.h41_xrom.specs.Calculator.{machine_of, not_typing, of_line}
use Rattle.h41_xrom.specs.CalculatorLaws as CalculatorLaws
use Rattle.h41_xrom.specs.CalculatorLaws.{LoadIsDetermined, StepRefusalIsDetermined}
use Rattle.h41_xrom.specs.Programs.{change_refusal, after_load}
use Rattle.h41_xrom.specs.declared.calculator.Mode.{Mode}
use Rattle.h41_xrom.specs.declared.calculator.Mode.TheVariants as modes
use Rattle.h41_xrom.specs.declared.refusal.CalculatorRefusal.{CalculatorRefusal}

module _ (line_determined : LineIsDetermined) where
  same_line : (s : CalculatorState) (a b : Result Left FocalRefusal) → CarriesHere sources.Program s a → CarriesHere sources.Program s b
      → a ≡ b
  same_line s a b p q = line_determined sources.Program s.nut.pages (machine_of s) a b p q

  -- Why a step is refused.
  same_line_refusal : (s : CalculatorState) (a b : Option CalculatorRefusal) → RefusesLine s a → RefusesLine s b → a ≡ b
  same_line_refusal s a b (p, p_carries, p_is) (q, q_carries, q_is) =
      p_is ∙ ap (λ (of : Result Left FocalRefusal). option_map of_line (result_err of)) (same_line s p q p_carries q_carries) ∙ sym q_is

  same_refusal : (mode : Mode) (s : CalculatorState) (a b : Option CalculatorRefusal) → RefusesStepIn mode s a → RefusesStepIn mode s b
      → a ≡ b
  same_refusal modes.Idle s a b p q = same_line_refusal s a b p q
  same_refusal modes.Run s a b p q = same_line_refusal s a b p q
  same_refusal (modes.Micro caller) s a b p q = p ∙ sym q

  pub refusal_determined : StepRefusalIsDetermined
  refusal_determined s a b p q = same_refusal s.mode s a b p q

  same_end : (end other : Left) → ◌≡◌ {A = Result Left FocalRefusal} (Ok end) (Ok other) → end ≡ other
  same_end end other is = cc

  -- The state after a step.
  same_behind : (s t u : CalculatorState) → StepsByLine s t → StepsByLine s u → t ≡ u
  same_behind s t u (p, p_carries, p_is) (q, q_carries, q_is) =
      p_is ∙ ap (after_line (not_typing s)) (same_end p q (same_line s (Ok p) (Ok q) p_carries q_carries)) ∙ sym q_is

  module _ (same_micro : MicroIsDetermined) where
    same_state : (mode : Mode) (s t u : CalculatorState) → StepIn mode s t → StepIn mode s u → t ≡ u
    same_state modes.Idle s t u p q = same_behind s t u p q
    same_state modes.Run s t u p q = same_behind s t u p q
    same_state (modes.Micro caller) s t u p q = p.1 ∙ ap (after_word caller s) (same_micro s.nut t.nut u.nut p.0 q.0) ∙ sym q.1

    pub step_determined : CalculatorLaws.StepIsDetermined
    step_determined s t u p q = same_state s.mode s t u p q

-- The result of a load.
module _ (same_load : LoadsAreDetermined) where
  same_made_by : (why : Option CalculatorRefusal) (s : CalculatorState) (bytes : List ℕ) (a b : Result CalculatorState CalculatorRefusal)
      → MatchOption why
      ((outcome : Result (RegisterMap × ℕ) program.ProgramRefusal) × LoadGives s.nut.ram bytes outcome × (a ≡ after_load s outcome))
      (λ why. a ≡ Err why)
      → MatchOption why
      ((outcome : Result (RegisterMap × ℕ) program.ProgramRefusal) × LoadGives s.nut.ram bytes outcome × (b ≡ after_load s outcome))
      (λ why. b ≡ Err why)
      → a ≡ b
  same_made_by None s bytes a b p q = p.2 ∙ ap (after_load s) (same_load s.nut.ram bytes p.0 q.0 p.1 q.1) ∙ sym q.2
  same_made_by (Some why) s bytes a b p q = p ∙ sym q

  pub load_determined : LoadIsDetermined
  load_determined bytes s t u a b p q =
      let made : p.0 ≡ q.0 = same_made_by (change_refusal s) s bytes p.0 q.0 p.1 q.1 in (
        p.2.0 ∙ ap (λ (of : Result CalculatorState CalculatorRefusal). result_unwrap_or of s) made ∙ sym q.2.0,
        p.2.1 ∙ ap result_err made ∙ sym q.2.1,
      )
