-- ISG and DSE of a data register that contains a number, both ways, as theorems about programs describe memory. What the counter is, and
-- whether the loop continues, are for the caller to say.
use Rattle.std.proofs.Common.{◌≡◌, ℕ, ◌<◌, Bool, true, false, List, Ok, ap, ◌∙◌, subst, length}
use Rattle.std.specs.Prelude.{ℤ}
use Rattle.h41_codes.specs.declared.functions.ParameterFunction.{ParameterFunction}
use Rattle.h41_codes.specs.declared.line.Line.{Line}
use Rattle.h41_codes.specs.declared.line.Line.TheVariants.{WithOperand}
use Rattle.h41_codes.specs.declared.line.Operand.{Operand}
use Rattle.h41_decimal.specs.Holding.{Number, holding_of}
use Rattle.h41_decimal.specs.Laws.{DecimalIsItsNearest}
use Rattle.h41_decimal.specs.NearestDecimal.{Nearest}
use Rattle.h41_decimal.specs.Units.{units}
use Rattle.h41_decimal.specs.declared.ten.Ten.{Ten}
use Rattle.h41_focal.specs.LineStep.{Works}
use Rattle.h41_pages.specs.PageMap.{PageMap}
use Rattle.h41_positions.specs.declared.position.Position.{Position}
use Rattle.h41_ram.specs.NamedRegisters.{data_address, size_of}
use Rattle.h41_ram.specs.RegisterMap.{RegisterMap, is_sound, register_at}
use Rattle.h41_rows.specs.Counters.{Way, goes_on, number_after}
use Rattle.h41_rows.specs.LineRows.{loop, register_row}
use Rattle.h41_rows.specs.Operands.{RegisterKind, address_of, kind_of}
use Rattle.h41_rows.specs.Places.{Named}
use Rattle.h41_rows.specs.Profile.{is_left_out}
use Rattle.h41_rows.specs.RowEffects.{holds_in}
use Rattle.h41_rows.specs.Rows as rows
use Rattle.h41_rows.specs.Values.{IsRegisterOf}
use Rattle.h41_reasoning_lines.specs.ProgramStates.{HasBecome, with_content}
use Rattle.h41_reasoning_lines.specs.Stacks.{Stack, with_stack}
use Rattle.h41_reasoning_lines.proofs.Listed.{IsLineAt, also}
use Rattle.h41_reasoning_lines.proofs.ProgramStates.{program_stays, restacked}
use Rattle.h41_reasoning_lines.proofs.ProgramSteps.{Reaches, by_register}
use Rattle.h41_reasoning_lines.proofs.Registers.{counted, counts_on, counts_out, tells_loop}
use Rattle.h41_reasoning_lines.proofs.Stepping.{before_line}

module _ (itself : DecimalIsItsNearest) (pages : PageMap) (old : RegisterMap) (sixteen : length old.status ≡ 16)
    (sound : is_sound old ≡ true) (stack : Stack) (contents : ℕ → List ℕ) (memory : RegisterMap)
    (is : HasBecome old stack contents memory) (at next : ℕ) (zero : Bool) (returns : List Position)
    (n : ℕ) (inside : n < size_of old) (operand : Operand) (means : address_of (with_stack stack memory) operand ≡ Ok (data_address old n))
    (lift : Bool) (function : ParameterFunction) (way : Way) (has : register_row function ≡ loop way)
    (kind : kind_of function ≡ RegisterKind) (supported : is_left_out (WithOperand function operand) ≡ false)
    (line : IsLineAt old at (WithOperand function operand) next) (number : ℤ) (holds : holding_of (contents n) ≡ Number number)
    (ten : Ten) (register : List ℕ) (is_register : IsRegisterOf (units ten) register) (ten_is : units ten ≡ number_after way number) where
  abbrev same : RegisterMap
  same = with_stack stack memory

  same_is : HasBecome old stack contents same
  same_is = restacked old sixteen sound stack contents memory is stack

  abbrev place : ℕ
  place = data_address old n

  line_there : (other : Line) (from to : ℕ) → IsLineAt old from other to → IsLineAt same from other to
  line_there other from to found = also old same from other to (program_stays old sixteen sound stack contents same same_is) found

  holds_there : holding_of (register_at same place) ≡ Number number
  holds_there = ap holding_of (same_is.data_are n inside) ∙ holds

  works : Works same place (loop way) (Ok register)
  works =
      counted same place way number holds_there ten register is_register
      (subst (λ (z : ℤ). Nearest z 1 (Ok ten)) ten_is (itself ten))

  tells : holds_in same place (rows.Loops way Named) ≡ goes_on way number
  tells = tells_loop same place way number holds_there

  -- The next line follows.
  pub goes_round : goes_on way number ≡ true
      → Reaches pages old (before_line memory at zero returns lift) stack (with_content contents n register) next returns true
  goes_round more =
      by_register pages old sixteen sound stack contents memory is at next zero returns lift n register inside next true
      (counts_on pages same at next zero returns lift place register function operand way has kind supported means
      (line_there _ at next line) works (tells ∙ more))

  -- The next line is skipped.
  pub goes_past : goes_on way number ≡ false → (skipped : Line) (after : ℕ) → IsLineAt old next skipped after
      → Reaches pages old (before_line memory at zero returns lift) stack (with_content contents n register) after returns true
  goes_past none skipped after other =
      by_register pages old sixteen sound stack contents memory is at next zero returns lift n register inside after true
      (counts_out pages same at next zero returns lift place register function operand way has kind supported means
      (line_there _ at next line) works skipped after (line_there skipped next after other) (tells ∙ none))
