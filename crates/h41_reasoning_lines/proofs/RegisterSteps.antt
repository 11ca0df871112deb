-- What lines with a register do to memory as theorems about programs describe it, for each data register and with IND: RCL, STO, X<>, and
-- arithmetic in a register, such as ST+.
use Rattle.std.proofs.Common.{◌≡◌, ℕ, ◌/◌, ◌<◌, Bool, true, false, List, Result, Ok, Err, refl, sym, ap, ◌∙◌, subst, length, arith}
use Rattle.std.specs.Prelude.{if◌then◌else◌, ℤ, pos, unsigned_abs}
use Rattle.h41_codes.specs.declared.functions.ParameterFunction.{ParameterFunction}
use Rattle.h41_codes.specs.declared.functions.ParameterFunction.TheVariants as functions
use Rattle.h41_codes.specs.declared.line.Line.{Line}
use Rattle.h41_codes.specs.declared.line.Line.TheVariants.{WithOperand}
use Rattle.h41_codes.specs.declared.line.Operand.{Operand}
use Rattle.h41_codes.specs.declared.line.Operand.TheVariants.{Direct, Indirect}
use Rattle.h41_decimal.specs.Holding.{Number, holding_of}
use Rattle.h41_decimal.specs.Units.{one, units}
use Rattle.h41_decimal.specs.declared.fault.DecimalFault.TheVariants.{Data, Range}
use Rattle.h41_decimal.specs.declared.ten.Ten.{Ten}
use Rattle.h41_focal.specs.Destinations.{Arrives}
use Rattle.h41_focal.specs.LineStep.{Left, StepsLine, Works, error_flag, left_done, left_failed, with_fault_caught}
use Rattle.h41_focal.specs.declared.refusal.FocalRefusal.{FocalRefusal}
use Rattle.h41_pages.specs.PageMap.{PageMap}
use Rattle.h41_positions.specs.FocalState.{Machine, at_line}
use Rattle.h41_positions.specs.declared.position.Position.{Position}
use Rattle.h41_positions.specs.declared.position.Position.TheVariants.{Memory}
use Rattle.h41_ram.specs.NamedFlags.{range_ignore}
use Rattle.h41_ram.specs.NamedRegisters.{data_address, size_of}
use Rattle.h41_ram.specs.RegisterMap.{RegisterMap, flag_of, is_sound, register_at, with_register, zeros}
use Rattle.h41_rows.specs.LineRows.{into_register, register_row}
use Rattle.h41_rows.specs.Operands.{RegisterKind, address_of, kind_of}
use Rattle.h41_rows.specs.Places.{Named, X}
use Rattle.h41_rows.specs.Profile.{is_left_out}
use Rattle.h41_rows.specs.Values.{IsOfTwo, IsRegisterOf, OfTwo}
use Rattle.h41_rows.specs.declared.fault.LineFault.{LineFault}
use Rattle.h41_rows.specs.declared.fault.LineFault.TheVariants.{DataError, OutOfRange}
use Rattle.h41_rows.specs.declared.values.ValueOfTwo.{ValueOfTwo}
use Rattle.h41_reasoning_lines.specs.LineRuns.{Continues}
use Rattle.h41_reasoning_lines.specs.ProgramStates.{HasBecome, with_content}
use Rattle.h41_reasoning_lines.specs.Stacks.{Stack, with_stack}
use Rattle.h41_reasoning_lines.proofs.Computing.{answers_two}
use Rattle.h41_reasoning_lines.proofs.Counters.{counter, whole_is}
use Rattle.h41_reasoning_lines.proofs.Errors.{out_of_two}
use Rattle.h41_reasoning_lines.proofs.Listed.{IsLineAt, also}
use Rattle.h41_reasoning_lines.proofs.ProgramStates.{address_stays, own, program_stays, restacked, rewritten, size_stays}
use Rattle.h41_reasoning_lines.proofs.ProgramSteps.{Reaches, by_register, by_stack, clear_there}
use Rattle.h41_reasoning_lines.proofs.Registers.{coming, computed_there, direct, indirect, recalled, stored, with_parameter}
use Rattle.h41_reasoning_lines.proofs.Stepping.{after_line, before_line}
use Rattle.h41_reasoning_lines.proofs.Wholes.{whole}

-- The number of the register that an operand with IND means: a whole number, or the count of a counter of ISG and DSE.
pub index_whole : (k n : ℕ) → k ≡ n → unsigned_abs (whole k) / one ≡ n
index_whole k n same = omega (arith, same)

pub index_counter : (k f n : ℕ) → f < 1000 → k ≡ n → unsigned_abs (pos (counter k f)) / one ≡ n
index_counter k f n few same = whole_is k f few ∙ same

module _ (pages : PageMap) (old : RegisterMap) (sixteen : length old.status ≡ 16) (sound : is_sound old ≡ true)
    (stack : Stack) (contents : ℕ → List ℕ) (memory : RegisterMap) (is : HasBecome old stack contents memory)
    (at next : ℕ) (zero : Bool) (returns : List Position) where
  -- Memory with its own stack, as the lemmas about lines describe it.
  abbrev same : RegisterMap
  same = with_stack stack memory

  same_is : HasBecome old stack contents same
  same_is = restacked old sixteen sound stack contents memory is stack

  line_there : (line : Line) (from to : ℕ) → IsLineAt old from line to → IsLineAt same from line to
  line_there line from to found = also old same from line to (program_stays old sixteen sound stack contents same same_is) found

  abbrev before : Bool → Machine
  before lift = before_line memory at zero returns lift

  inside_there : (n : ℕ) → n < size_of old → n < size_of same
  inside_there n inside = subst (λ (size : ℕ). n < size) (sym (size_stays old sixteen sound stack contents same same_is)) inside

  moves : (n : ℕ) → let found : Result ℕ LineFault = Ok (data_address same n) in found ≡ Ok (data_address old n)
  moves n =
      ap (λ (address : ℕ). let found : Result ℕ LineFault = Ok address in found)
      (address_stays old sixteen sound stack contents same same_is n)

  -- The register of a direct operand.
  pub direct_there : (n : ℕ) → n < 100 → n < size_of old → address_of same (Direct n) ≡ Ok (data_address old n)
  direct_there n small inside = direct same n small (inside_there n inside) ∙ moves n

  -- The register of an indirect operand, whose number is in a data register.
  pub indirect_there : (parameter n : ℕ) (number : ℤ) → parameter < 100 → parameter < size_of old → n < size_of old
      → holding_of (contents parameter) ≡ Number number → unsigned_abs number / one ≡ n
      → address_of same (Indirect parameter) ≡ Ok (data_address old n)
  indirect_there parameter n number small exists inside holds whole =
      indirect same parameter (data_address old parameter) n number (direct_there parameter small exists)
      (ap holding_of (same_is.data_are parameter exists) ∙ holds) whole (inside_there n inside)
      ∙ moves n

  -- A line with an operand that means data register n.
  module _ (n : ℕ) (inside : n < size_of old) (operand : Operand) (means : address_of same operand ≡ Ok (data_address old n)) where
    abbrev place : ℕ
    place = data_address old n

    module _ (supported : is_left_out (WithOperand functions.Recall operand) ≡ false)
        (line : IsLineAt old at (WithOperand functions.Recall operand) next) where
      pub recalls_by : (lift : Bool) → Reaches pages old (before lift) (coming lift stack (contents n)) contents next returns true
      recalls_by lift =
          by_stack pages old sixteen sound stack contents memory is at next zero returns lift (coming lift stack (contents n)) next true
          (subst
          (λ (r : List ℕ). Continues pages (before_line same at zero returns lift)
          (after_line (with_stack (coming lift stack r) memory) next returns true))
          (same_is.data_are n inside)
          (recalled pages stack memory at next zero returns place operand supported means (line_there _ at next line) lift))

    module _ (lift : Bool) where
      pub stores_by : is_left_out (WithOperand functions.Store operand) ≡ false
          → IsLineAt old at (WithOperand functions.Store operand) next
          → Reaches pages old (before lift) stack (with_content contents n stack.x) next returns true
      stores_by supported line =
          by_register pages old sixteen sound stack contents memory is at next zero returns lift n stack.x inside next true
          (stored pages stack memory at next zero returns place lift operand supported means (line_there _ at next line))

      -- The stack and the memory after X<>.
      abbrev swapped : List ℕ → Stack
      swapped register = record stack { x = register }

      abbrev exchanged_with : List ℕ → RegisterMap
      exchanged_with register = with_register (with_stack (swapped register) memory) place stack.x

      pub exchanges_by : is_left_out (WithOperand functions.Exchange operand) ≡ false
          → IsLineAt old at (WithOperand functions.Exchange operand) next
          → Reaches pages old (before lift) (swapped (contents n)) (with_content contents n stack.x) next returns true
      exchanges_by supported line = record {
        memory = exchanged_with (contents n);
        step =
            subst
            (λ (m : RegisterMap). Continues pages (before_line m at zero returns lift)
            (after_line (exchanged_with (contents n)) next returns true))
            (own old sixteen sound stack contents memory is)
            (subst
            (λ (r : List ℕ). Continues pages (before_line same at zero returns lift) (after_line (exchanged_with r) next returns true))
            (same_is.data_are n inside)
            (with_parameter pages same at next zero returns lift place _ functions.Exchange operand _ refl refl supported means
            (line_there _ at next line) (Ok zeros, refl, (Arrives (Memory next) returns, refl, refl))));
        has =
            rewritten old sixteen sound (swapped (contents n)) contents (with_stack (swapped (contents n)) memory)
            (restacked old sixteen sound stack contents memory is (swapped (contents n))) n stack.x inside;
      }

      -- ST+ and the others.
      module _ (function : ParameterFunction) (two : ValueOfTwo) (y x : ℤ) (has : register_row function ≡ into_register (OfTwo two Named X))
          (kind : kind_of function ≡ RegisterKind) (supported : is_left_out (WithOperand function operand) ≡ false)
          (line : IsLineAt old at (WithOperand function operand) next) (holds : holding_of (contents n) ≡ Number y)
          (in_x : holding_of stack.x ≡ Number x) where
        holds_there : holding_of (register_at same place) ≡ Number y
        holds_there = ap holding_of (same_is.data_are n inside) ∙ holds

        pub computes_by : (answer : Ten) (result : List ℕ) → IsRegisterOf (units answer) result → IsOfTwo two y x (Ok answer)
            → Reaches pages old (before lift) stack (with_content contents n result) next returns true
        computes_by answer result is_register nearest =
            by_register pages old sixteen sound stack contents memory is at next zero returns lift n result inside next true
            (computed_there pages same at next zero returns lift place result function operand (OfTwo two Named X) has kind supported means
            (line_there _ at next line)
            (answers_two same place Named X y x holds_there in_x two (Ok answer) (Ok result) nearest is_register))

        -- The line has an error, which stops the program unless flag 25 is set.
        stops : (fault : LineFault) → flag_of old error_flag ≡ false
            → Works same place (into_register (OfTwo two Named X)) (Err fault)
            → StepsLine pages (before lift) (Ok (left_failed (after_line memory at returns lift) fault))
        stops fault clear works =
            subst
            (λ (m : RegisterMap). StepsLine pages (before_line m at zero returns lift)
            (Ok (left_failed (after_line m at returns lift) fault)))
            (own old sixteen sound stack contents memory is)
            (with_parameter pages same at next zero returns lift place (left_failed (after_line same at returns lift) fault) function
            operand (into_register (OfTwo two Named X)) has kind supported means (line_there _ at next line) (
              Err fault,
              works,
              ap
                  (λ (on : Bool). let carried : Result Left FocalRefusal =
                  Ok (if on then left_done (at_line (Memory next) (with_fault_caught (before_line same at zero returns lift)))
                  else left_failed (after_line same at returns lift) fault) in carried)
                  (sym (clear_there pages old sixteen sound stack contents memory is at next zero returns error_flag clear)),
            ))

        pub out_of_range_by : flag_of old error_flag ≡ false → flag_of old range_ignore ≡ false → IsOfTwo two y x (Err Range)
            → StepsLine pages (before lift) (Ok (left_failed (after_line memory at returns lift) OutOfRange))
        out_of_range_by clear clear_range nearest =
            stops OutOfRange clear
            (out_of_two same place Named X y x holds_there in_x
            (clear_there pages old sixteen sound stack contents memory is at next zero returns range_ignore clear_range) two nearest)

        pub data_error_by : flag_of old error_flag ≡ false → IsOfTwo two y x (Err Data)
            → StepsLine pages (before lift) (Ok (left_failed (after_line memory at returns lift) DataError))
        data_error_by clear nearest =
            stops DataError clear (answers_two same place Named X y x holds_there in_x two (Err Data) (Err DataError) nearest refl)
