-- What a line does to memory as theorems about programs describe it: the line continues, and memory has become this.
use Rattle.std.proofs.Common.{◌≡◌, ℕ, ◌<◌, Bool, true, false, List, [], ◌∷◌, Some, Result, Ok, Err, refl, sym, ap, ◌∙◌}
use Rattle.std.proofs.Common.{subst, arith, length}
use Rattle.std.specs.Prelude.{if◌then◌else◌, pos}
use Rattle.h41_codes.specs.declared.characters.Character.{Character}
use Rattle.h41_codes.specs.declared.functions.Function.{Function}
use Rattle.h41_codes.specs.declared.functions.Function.TheVariants as functions
use Rattle.h41_codes.specs.declared.functions.RegisterFunction.TheVariants.{RecallRegister, StoreRegister}
use Rattle.h41_codes.specs.declared.line.Line.{Line}
use Rattle.h41_codes.specs.declared.line.Line.TheVariants as lines
use Rattle.h41_decimal.specs.Laws.{DecimalIsItsNearest}
use Rattle.h41_decimal.specs.Units.{units}
use Rattle.h41_decimal.specs.declared.sign.Sign.TheVariants.{Plus}
use Rattle.h41_decimal.specs.declared.ten.Ten.{Ten}
use Rattle.h41_decimal.specs.declared.ten.Ten.TheVariants.{Nonzero, Zero}
use Rattle.h41_focal.specs.Destinations.{Arrives}
use Rattle.h41_focal.specs.LineStep.{Left, StepsLine, Works, error_flag, left_done, left_failed, with_fault_caught}
use Rattle.h41_focal.specs.declared.refusal.FocalRefusal.{FocalRefusal}
use Rattle.h41_numbers.specs.NumberLines.{IsNumberOf}
use Rattle.h41_pages.specs.PageMap.{PageMap}
use Rattle.h41_positions.specs.FocalState.{Machine, at_line}
use Rattle.h41_positions.specs.declared.position.Position.{Position}
use Rattle.h41_positions.specs.declared.position.Position.TheVariants.{Memory}
use Rattle.h41_program.specs.ProgramLaws.{OneList}
use Rattle.h41_program.specs.Searches.{AnswersLocal}
use Rattle.h41_program.proofs.Depends as depends
use Rattle.h41_ram.specs.NamedRegisters.{data_address, size_of}
use Rattle.h41_ram.specs.RegisterMap.{RegisterMap, flag_of, is_sound, with_register, zeros}
use Rattle.h41_rows.specs.FunctionRows.{function_row}
use Rattle.h41_rows.specs.Operands.{data_register}
use Rattle.h41_rows.specs.Places.{X, are_numbers}
use Rattle.h41_rows.specs.RowEffects.{holds_in}
use Rattle.h41_rows.specs.Rows as rows
use Rattle.h41_rows.specs.Values.{IsRegisterOf, OfOne, Value}
use Rattle.h41_rows.specs.declared.fault.LineFault.{LineFault}
use Rattle.h41_rows.specs.declared.values.ValueOfOne.TheVariants as ones
use Rattle.h41_reasoning_lines.specs.LineRuns.{Continues}
use Rattle.h41_reasoning_lines.specs.ProgramStates.{HasBecome, with_content}
use Rattle.h41_reasoning_lines.specs.Stacks.{Stack, with_stack}
use Rattle.h41_reasoning_lines.proofs.Listed.{IsLineAt, also}
use Rattle.h41_reasoning_lines.proofs.ProgramStates.{address_stays, flag_stays, own, program_stays, restacked, rewritten, size_stays}
use Rattle.h41_reasoning_lines.proofs.Registers.{coming, data_found, number_in_x, recalled_short, stored_short}
use Rattle.h41_reasoning_lines.proofs.Stepping.{Back, after_line, before_line, ended, entered, exchanged, global_label, go_to, label}
use Rattle.h41_reasoning_lines.proofs.Stepping.{lifts, of_one, of_two, own_place, plain, returned, rolled_down, test_false, test_true}

-- A line continues at a position, with this stack and these data registers.
pub record Reaches (pages : PageMap) (old : RegisterMap) (s : Machine) (stack : Stack) (contents : ℕ → List ℕ) (at : ℕ)
    (returns : List Position) (lift : Bool) : Type 0 where
  pub memory : RegisterMap
  pub step : Continues pages s (after_line memory at returns lift)
  pub has : HasBecome old stack contents memory

-- A state with stack lift on is at a position in memory.
pub own_lifted : (s : Machine) (at : ℕ) → s.focal.position ≡ Memory at → s.focal.lift ≡ true
    → before_line s.memory at s.focal.at_line_00 s.focal.returns true ≡ s
own_lifted s at place on =
    ap (λ (lift : Bool). before_line s.memory at s.focal.at_line_00 s.focal.returns lift) (sym on) ∙ own_place s at place

-- The decimal of PI.
abbrev pub pi_ten : Ten
pi_ten =
    Nonzero Plus record {
      mantissa = record { digits = 3141592654; at_least = omega arith; below = omega arith };
      exponent = record { biased = 99; in_range = omega arith };
    }

-- The stack after a function of Y and X, and after a function of X.
abbrev pub dropped : Stack → List ℕ → Stack
dropped stack result = record { t = stack.t; z = stack.t; y = stack.z; x = result; last = stack.x }

abbrev pub applied : Stack → List ℕ → Stack
applied stack result = record stack { x = result; last = stack.x }

module _ (pages : PageMap) (old : RegisterMap) (sixteen : length old.status ≡ 16) (sound : is_sound old ≡ true)
    (stack : Stack) (contents : ℕ → List ℕ) (memory : RegisterMap) (is : HasBecome old stack contents memory)
    (at next : ℕ) (zero : Bool) (returns : List Position) where
  -- Memory with its own stack, as the lemmas about lines describe it.
  abbrev same : RegisterMap
  same = with_stack stack memory

  same_is : HasBecome old stack contents same
  same_is = restacked old sixteen sound stack contents memory is stack

  there : (line : Line) (from to : ℕ) → IsLineAt old from line to → IsLineAt same from line to
  there line from to found = also old same from line to (program_stays old sixteen sound stack contents same same_is) found

  pub clear_there : (flag : ℕ) → flag_of old flag ≡ false → flag_of same flag ≡ false
  clear_there flag clear = flag_stays old sixteen sound stack contents same same_is flag ∙ clear

  abbrev before : Bool → Machine
  before lift = before_line memory at zero returns lift

  abbrev before_same : Bool → Machine
  before_same lift = before_line same at zero returns lift

  -- A line that changes the stack alone.
  pub by_stack : (lift : Bool) (new : Stack) (to : ℕ) (on : Bool)
      → Continues pages (before_same lift) (after_line (with_stack new memory) to returns on)
      → Reaches pages old (before lift) new contents to returns on
  by_stack lift new to on step = record {
    memory = with_stack new memory;
    step =
        subst (λ (m : RegisterMap). Continues pages (before_line m at zero returns lift) (after_line (with_stack new memory) to returns on))
        (own old sixteen sound stack contents memory is) step;
    has = restacked old sixteen sound stack contents memory is new;
  }

  -- A line that writes a data register.
  pub by_register : (lift : Bool) (n : ℕ) (register : List ℕ) → n < size_of old → (to : ℕ) (on : Bool)
      → Continues pages (before_same lift) (after_line (with_register same (data_address old n) register) to returns on)
      → Reaches pages old (before lift) stack (with_content contents n register) to returns on
  by_register lift n register inside to on step = record {
    memory = with_register same (data_address old n) register;
    step =
        subst
        (λ (m : RegisterMap). Continues pages (before_line m at zero returns lift)
        (after_line (with_register same (data_address old n) register) to returns on))
        (own old sixteen sound stack contents memory is) step;
    has = rewritten old sixteen sound stack contents same same_is n register inside;
  }

  -- Data registers that exist are found, and contain what is known of them.
  inside_there : (n : ℕ) → n < size_of old → n < size_of same
  inside_there n inside = subst (λ (size : ℕ). n < size) (sym (size_stays old sixteen sound stack contents same same_is)) inside

  pub found_there : (n : ℕ) → n < size_of old → data_register same n ≡ Ok (data_address old n)
  found_there n inside =
      data_found same n (inside_there n inside)
      ∙ ap (λ (address : ℕ). let found : Result ℕ LineFault = Ok address in found)
      (address_stays old sixteen sound stack contents same same_is n)

  -- RCL 00 to RCL 15.
  pub recalls : (n : ℕ) → n < size_of old → IsLineAt old at (lines.Register RecallRegister n) next → (lift : Bool)
      → Reaches pages old (before lift) (coming lift stack (contents n)) contents next returns true
  recalls n inside line lift =
      by_stack lift (coming lift stack (contents n)) next true
      (subst
      (λ (r : List ℕ). Continues pages (before_same lift) (after_line (with_stack (coming lift stack r) memory) next returns true))
      (same_is.data_are n inside)
      (recalled_short pages stack memory at next zero returns (data_address old n) n (found_there n inside) (there _ at next line) lift))

  -- Number lines.
  module _ (characters : List Character) (number : Ten) (register : List ℕ) (is_number : IsNumberOf characters number)
      (is_register : IsRegisterOf (units number) register) (line : IsLineAt old at (lines.Number characters) next) where
    pub enters_number : (lift : Bool) → Reaches pages old (before lift) (coming lift stack register) contents next returns true
    enters_number lift =
        by_stack lift (coming lift stack register) next true
        (number_in_x pages stack memory at next zero returns 0 characters number register is_number is_register (there _ at next line) lift)

  -- LASTX.
  pub recalls_last : IsLineAt old at (lines.Plain functions.LastX) next → (lift : Bool)
      → Reaches pages old (before lift) (coming lift stack stack.last) contents next returns true
  recalls_last line true =
      by_stack true (coming true stack stack.last) next true
      (plain pages same at next zero returns true functions.LastX _ _ refl (there _ at next line)
      (Ok zeros, refl, (Arrives (Memory next) returns, refl, refl)))
  recalls_last line false =
      by_stack false (coming false stack stack.last) next true
      (plain pages same at next zero returns false functions.LastX _ _ refl (there _ at next line)
      (Ok zeros, refl, (Arrives (Memory next) returns, refl, refl)))

  -- PI.
  module _ (itself : DecimalIsItsNearest) (register : List ℕ) (is_register : IsRegisterOf (units pi_ten) register)
      (line : IsLineAt old at (lines.Plain functions.Pi) next) where
    pub recalls_pi : (lift : Bool) → Reaches pages old (before lift) (coming lift stack register) contents next returns true
    recalls_pi true =
        by_stack true (coming true stack register) next true
        (plain pages same at next zero returns true functions.Pi _ _ refl (there _ at next line) (
          Ok register,
          record { answer = Ok pi_ten; nearest = itself pi_ten; kept = is_register },
          (Arrives (Memory next) returns, refl, refl),
        ))
    recalls_pi false =
        by_stack false (coming false stack register) next true
        (plain pages same at next zero returns false functions.Pi _ _ refl (there _ at next line) (
          Ok register,
          record { answer = Ok pi_ten; nearest = itself pi_ten; kept = is_register },
          (Arrives (Memory next) returns, refl, refl),
        ))

  module _ (lift : Bool) where
    pub stores : (n : ℕ) → n < size_of old → IsLineAt old at (lines.Register StoreRegister n) next
        → Reaches pages old (before lift) stack (with_content contents n stack.x) next returns true
    stores n inside line =
        by_register lift n stack.x inside next true
        (stored_short pages stack memory at next zero returns (data_address old n) lift n (found_there n inside) (there _ at next line))

    pub exchanges : IsLineAt old at (lines.Plain functions.ExchangeXY) next
        → Reaches pages old (before lift) (record stack { x = stack.y; y = stack.x }) contents next returns true
    exchanges line = by_stack lift _ next true (exchanged pages stack memory at next zero returns lift (there _ at next line))

    pub rolls_down : IsLineAt old at (lines.Plain functions.RollDown) next
        → Reaches pages old (before lift) (record stack { x = stack.y; y = stack.z; z = stack.t; t = stack.x }) contents next returns true
    rolls_down line = by_stack lift _ next true (rolled_down pages stack memory at next zero returns lift (there _ at next line))

    pub rolls_up : IsLineAt old at (lines.Plain functions.RollUp) next
        → Reaches pages old (before lift) (record stack { x = stack.t; y = stack.x; z = stack.y; t = stack.z }) contents next returns true
    rolls_up line =
        by_stack lift (record stack { x = stack.t; y = stack.x; z = stack.y; t = stack.z }) next true
        (plain pages same at next zero returns lift functions.RollUp _ _ refl (there _ at next line)
        (Ok zeros, refl, (Arrives (Memory next) returns, refl, refl)))

    -- BEEP, PSE and ADV, which have no effect in the bench.
    pub only_lifts : (function : Function) → function_row function ≡ Some rows.lifting_row → IsLineAt old at (lines.Plain function) next
        → Reaches pages old (before lift) stack contents next returns true
    only_lifts function has line =
        by_stack lift stack next true (lifts pages same at next zero returns lift function has (there _ at next line))

    pub enters : IsLineAt old at (lines.Plain functions.Enter) next
        → Reaches pages old (before lift) (record stack { y = stack.x; z = stack.y; t = stack.z }) contents next returns false
    enters line = by_stack lift _ next false (entered pages stack memory at next zero returns lift (there _ at next line))

    pub passes_label : (n : ℕ) → IsLineAt old at (lines.LocalLabel n) next
        → Reaches pages old (before lift) stack contents next returns lift
    passes_label n line = by_stack lift stack next lift (label pages same at next zero returns lift n (there _ at next line))

    -- GTO 00 to GTO 14.
    pub goes_to : (n distance target : ℕ) → IsLineAt old at (lines.ShortGoTo n distance) next → AnswersLocal old next n (Some target)
        → Reaches pages old (before lift) stack contents target returns lift
    goes_to n distance target line found =
        by_stack lift stack target lift
        (go_to pages same at next zero returns lift n distance target (there _ at next line)
        (depends.local old same next n (Some target) (program_stays old sixteen sound stack contents same same_is) found))

    pub passes_global : (link key : ℕ) (name : List ℕ) → IsLineAt old at (lines.GlobalLabel link key name) next
        → Reaches pages old (before lift) stack contents next returns lift
    passes_global link key name line =
        by_stack lift stack next lift (global_label pages same at next zero returns lift link key name (there _ at next line))

    -- Functions of Y and X, and of X.
    pub works_on_two : (function : Function) (value : Value) (result : List ℕ) → function_row function ≡ Some (rows.of_y_and_x value)
        → IsLineAt old at (lines.Plain function) next → Works same 0 (rows.of_y_and_x value) (Ok result)
        → Reaches pages old (before lift) (dropped stack result) contents next returns true
    works_on_two function value result has line works =
        by_stack lift (dropped stack result) next true
        (of_two pages stack memory at next zero returns lift function value result has (there _ at next line) works)

    pub works_on_one : (function : Function) (value : Value) (result : List ℕ) → function_row function ≡ Some (rows.of_x value)
        → IsLineAt old at (lines.Plain function) next → Works same 0 (rows.of_x value) (Ok result)
        → Reaches pages old (before lift) (applied stack result) contents next returns true
    works_on_one function value result has line works =
        by_stack lift (applied stack result) next true
        (of_one pages stack memory at next zero returns lift function value result has (there _ at next line) works)

    -- CHS, which leaves LAST X unchanged, and CLX, which turns stack lift off.
    pub changes_sign : (result : List ℕ) → IsLineAt old at (lines.Plain functions.ChangeSign) next
        → Works same 0 (record rows.lifting_row { value = Some (OfOne ones.Negative X); takes = rows.compute X ∷ [] }) (Ok result)
        → Reaches pages old (before lift) (record stack { x = result }) contents next returns true
    changes_sign result line works =
        by_stack lift (record stack { x = result }) next true
        (plain pages same at next zero returns lift functions.ChangeSign
        (record rows.lifting_row { value = Some (OfOne ones.Negative X); takes = rows.compute X ∷ [] }) _ refl (there _ at next line)
        (Ok result, works, (Arrives (Memory next) returns, refl, refl)))

    pub clears_x : (register : List ℕ) → IsRegisterOf (pos 0) register → IsLineAt old at (lines.Plain functions.ClearX) next
        → Reaches pages old (before lift) (record stack { x = register }) contents next returns false
    clears_x register is_register line =
        by_stack lift (record stack { x = register }) next false
        (plain pages same at next zero returns lift functions.ClearX _ _ refl (there _ at next line) (
          Ok register,
          record { answer = Ok Zero; nearest = refl; kept = is_register },
          (Arrives (Memory next) returns, refl, refl),
        ))

    pub clears_stack : (register : List ℕ) → IsRegisterOf (pos 0) register → IsLineAt old at (lines.Plain functions.ClearStack) next
        → Reaches pages old (before lift) (record { t = register; z = register; y = register; x = register; last = stack.last }) contents
        next returns true
    clears_stack register is_register line =
        by_stack lift (record { t = register; z = register; y = register; x = register; last = stack.last }) next true
        (plain pages same at next zero returns lift functions.ClearStack _ _ refl (there _ at next line) (
          Ok register,
          record { answer = Ok Zero; nearest = refl; kept = is_register },
          (Arrives (Memory next) returns, refl, refl),
        ))

    -- Tests.
    module _ (function : Function) (condition : rows.Condition) (has : function_row function ≡ Some (rows.test condition))
        (line : IsLineAt old at (lines.Plain function) next)
        (numbers : are_numbers same 0 (rows.places_in_condition condition) ≡ true) where
      pub tests_true : holds_in same 0 condition ≡ true → Reaches pages old (before lift) stack contents next returns true
      tests_true holds =
          by_stack lift stack next true
          (test_true pages same at next zero returns lift function condition has (there _ at next line) numbers holds)

      pub tests_false : (skipped : Line) (after : ℕ) → IsLineAt old next skipped after → holds_in same 0 condition ≡ false
          → Reaches pages old (before lift) stack contents after returns true
      tests_false skipped after other fails =
          by_stack lift stack after true
          (test_false pages same at next zero returns lift function condition has (there _ at next line) numbers skipped after
          (there skipped next after other) fails)

    -- A function that has an error stops the program, unless flag 25 is set.
    pub fails : (function : Function) (row : rows.LineRow) (fault : LineFault) → function_row function ≡ Some row
        → IsLineAt old at (lines.Plain function) next → flag_of old error_flag ≡ false → Works same 0 row (Err fault)
        → StepsLine pages (before lift) (Ok (left_failed (after_line memory at returns lift) fault))
    fails function row fault has line clear works =
        subst
        (λ (m : RegisterMap). StepsLine pages (before_line m at zero returns lift)
        (Ok (left_failed (after_line m at returns lift) fault)))
        (own old sixteen sound stack contents memory is)
        (plain pages same at next zero returns lift function row (left_failed (after_line same at returns lift) fault) has
        (there _ at next line) (
          Err fault,
          works,
          ap
              (λ (on : Bool). let carried : Result Left FocalRefusal =
              Ok (if on then left_done (at_line (Memory next) (with_fault_caught (before_same lift)))
              else left_failed (after_line same at returns lift) fault) in carried)
              (sym (clear_there error_flag clear)),
        ))

    -- RTN and END.
    module _ (lists : OneList) where
      goes_back : Back pages (before_same lift) → Back pages (before lift)
      goes_back back =
          subst (λ (m : RegisterMap). Back pages (before_line m at zero returns lift)) (own old sixteen sound stack contents memory is) back

      pub returns_back : IsLineAt old at (lines.Plain functions.Return) next → Back pages (before lift)
      returns_back line = goes_back (returned pages lists same at next zero returns lift (there _ at next line))

      pub ends_back : (link marks : ℕ) → IsLineAt old at (lines.End link marks) next → Back pages (before lift)
      ends_back link marks line =
          goes_back (ended pages lists same at next zero returns lift (lines.End link marks) refl (there _ at next line))
