-- DSE of a data register that contains a whole number: it counts down by one, and the loop ends at zero.
use Rattle.std.proofs.Common.{◌≡◌, ℕ, suc, ◌-◌, ◌<◌, ◌≤◌, Bool, true, false, List, Ok, refl, sym, ap, ◌∙◌, arith, length}
use Rattle.h41_codes.specs.declared.functions.ParameterFunction.TheVariants.{DecrementSkip}
use Rattle.h41_codes.specs.declared.line.Line.{Line}
use Rattle.h41_codes.specs.declared.line.Line.TheVariants.{WithOperand}
use Rattle.h41_codes.specs.declared.line.Operand.TheVariants.{Direct}
use Rattle.h41_decimal.specs.Holding.{Number, holding_of}
use Rattle.h41_decimal.specs.Laws.{DecimalIsItsNearest}
use Rattle.h41_decimal.specs.Units.{units}
use Rattle.h41_decimal.specs.declared.ten.Ten.{Ten}
use Rattle.h41_pages.specs.PageMap.{PageMap}
use Rattle.h41_positions.specs.declared.position.Position.{Position}
use Rattle.h41_ram.specs.NamedRegisters.{data_address, size_of}
use Rattle.h41_ram.specs.RegisterMap.{RegisterMap, is_sound}
use Rattle.h41_rows.specs.Counters.{Down, number_after}
use Rattle.h41_rows.specs.Operands.{address_of}
use Rattle.h41_rows.specs.Profile.{is_parameter_left_out}
use Rattle.h41_rows.specs.Values.{IsRegisterOf}
use Rattle.h41_reasoning_lines.specs.ProgramStates.{HasBecome, with_content}
use Rattle.h41_reasoning_lines.specs.Stacks.{Stack, with_stack}
use Rattle.h41_reasoning_lines.proofs.Counters.{number_down_whole, tested_down_whole}
use Rattle.h41_reasoning_lines.proofs.Listed.{IsLineAt}
use Rattle.h41_reasoning_lines.proofs.Loops.{goes_past, goes_round}
use Rattle.h41_reasoning_lines.proofs.ProgramSteps.{Reaches}
use Rattle.h41_reasoning_lines.proofs.RegisterSteps.{direct_there}
use Rattle.h41_reasoning_lines.proofs.Stepping.{before_line}
use Rattle.h41_reasoning_lines.proofs.Wholes.{lt_fails, lt_holds, whole}

module _ (itself : DecimalIsItsNearest) (pages : PageMap) (old : RegisterMap) (sixteen : length old.status ≡ 16)
    (sound : is_sound old ≡ true) (stack : Stack) (contents : ℕ → List ℕ) (memory : RegisterMap)
    (is : HasBecome old stack contents memory) (at next : ℕ) (zero : Bool) (returns : List Position) (lift : Bool)
    (n number : ℕ) (small : n < 100) (supported : is_parameter_left_out n ≡ false) (inside : n < size_of old)
    (line : IsLineAt old at (WithOperand DecrementSkip (Direct n)) next) (some : 0 < number)
    (holds : holding_of (contents n) ≡ Number (whole number)) (ten : Ten) (register : List ℕ)
    (ten_is : units ten ≡ whole (number - 1)) (is_register : IsRegisterOf (units ten) register) where
  means : address_of (with_stack stack memory) (Direct n) ≡ Ok (data_address old n)
  means = direct_there pages old sixteen sound stack contents memory is at next zero returns n small inside

  whole_is : suc (number - 1) ≡ number
  whole_is = omega (arith, some)

  holds_suc : holding_of (contents n) ≡ Number (whole (suc (number - 1)))
  holds_suc = holds ∙ ap (λ (m : ℕ). Number (whole m)) (sym whole_is)

  after_is : units ten ≡ number_after Down (whole (suc (number - 1)))
  after_is = ten_is ∙ sym (number_down_whole (number - 1))

  -- The next line follows.
  pub counts_down : 0 < number - 1
      → Reaches pages old (before_line memory at zero returns lift) stack (with_content contents n register) next returns true
  counts_down more =
      goes_round itself pages old sixteen sound stack contents memory is at next zero returns n inside (Direct n) means lift DecrementSkip
      Down refl refl supported line (whole (suc (number - 1))) holds_suc ten register is_register after_is
      (tested_down_whole (number - 1) ∙ lt_holds 0 (number - 1) more)

  -- The next line is skipped.
  pub counts_to_zero : number - 1 ≤ 0 → (skipped : Line) (after : ℕ) → IsLineAt old next skipped after
      → Reaches pages old (before_line memory at zero returns lift) stack (with_content contents n register) after returns true
  counts_to_zero none skipped after other =
      goes_past itself pages old sixteen sound stack contents memory is at next zero returns n inside (Direct n) means lift DecrementSkip
      Down refl refl supported line (whole (suc (number - 1))) holds_suc ten register is_register after_is
      (tested_down_whole (number - 1) ∙ lt_fails 0 (number - 1) none) skipped after other
