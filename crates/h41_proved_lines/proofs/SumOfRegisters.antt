use Rattle.std.proofs.Common.{◌≡◌, ℕ, zero, suc, ◌+◌, ◌*◌, ◌^◌, ◌<◌, ◌≤◌, Bool, true, false, List, [], ◌∷◌, Some, Ok}
use Rattle.std.proofs.Common.{refl, sym, ap, ◌∙◌, subst, arith}
use Rattle.std.specs.Prelude.{codes, ℤ, pos, ◌+ℤ◌}
use Rattle.h41_codes.specs.declared.characters.Character.TheVariants as characters
use Rattle.h41_codes.specs.declared.functions.Function.TheVariants as functions
use Rattle.h41_codes.specs.declared.functions.ParameterFunction.TheVariants.{IncrementSkip, Recall}
use Rattle.h41_codes.specs.declared.line.Line.{Line}
use Rattle.h41_codes.specs.declared.line.Line.TheVariants.{GlobalLabel, LocalLabel, Number, Plain, ShortGoTo, WithOperand}
use Rattle.h41_codes.specs.declared.line.Operand.TheVariants.{Direct, Indirect}
use Rattle.h41_decimal.specs.Holding.{holding_of}
use Rattle.h41_decimal.specs.Holding as holding
use Rattle.h41_decimal.specs.Laws.{DecimalIsItsNearest}
use Rattle.h41_decimal.specs.NearestDecimal.{Nearest}
use Rattle.h41_decimal.specs.Units.{units}
use Rattle.h41_decimal.specs.declared.ten.Ten.{Ten}
use Rattle.h41_decimal.specs.declared.ten.Ten.TheVariants.{Zero}
use Rattle.h41_laws_words.specs.DecimalAnswers.{DecimalHasOneRegister}
use Rattle.h41_focal.specs.LineStep.{Left, Works}
use Rattle.h41_pages.specs.PageMap.{PageMap}
use Rattle.h41_positions.specs.FocalState.{Machine}
use Rattle.h41_positions.specs.declared.position.Position.{Position}
use Rattle.h41_program.specs.ProgramLaws.{OneList, ReadIsDetermined}
use Rattle.h41_program.specs.Searches.{AnswersLocal}
use Rattle.h41_program.specs.declared.listed_line.ListedLine.{ListedLine}
use Rattle.h41_program.proofs.Depends as depends
use Rattle.h41_program.proofs.Sound.{bounds}
use Rattle.h41_ram.specs.NamedRegisters.{data_address, size_of}
use Rattle.h41_ram.specs.RegisterMap.{IsMemory, RegisterMap, is_sound, register_at}
use Rattle.h41_rows.specs.Counters.{Up}
use Rattle.h41_rows.specs.LineRows.{loop}
use Rattle.h41_rows.specs.Operands.{address_of}
use Rattle.h41_rows.specs.Places as places
use Rattle.h41_rows.specs.Values.{IsRegisterOf, OfTwo}
use Rattle.h41_rows.specs.declared.values.ValueOfTwo.TheVariants as twos
use Rattle.h41_reasoning_lines.specs.LineRuns.{Continues, Leaves}
use Rattle.h41_reasoning_lines.specs.ProgramLines.{IsProgram, ends_program}
use Rattle.h41_reasoning_lines.specs.Stacks.{Stack, stack_of, with_stack}
use Rattle.h41_reasoning_lines.proofs.Computing.{added}
use Rattle.h41_reasoning_lines.proofs.DataRegisters.{same_data}
use Rattle.h41_reasoning_lines.proofs.Listed.{IsLineAt, IsListed}
use Rattle.h41_reasoning_lines.proofs.Programs.{IsLast, all_in_turn, leads_back}
use Rattle.h41_reasoning_lines.proofs.Registers.{counted, counts_on, counts_out, indirect, number_in_x, recalled, tells_loop}
use Rattle.h41_reasoning_lines.proofs.Rounds.{by_last, line_then}
use Rattle.h41_reasoning_lines.proofs.Stacks.{same_program, still}
use Rattle.h41_reasoning_lines.proofs.Stepping.{after_line, before_line, by_state, ended, entered, global_label, go_to, label, of_two}
use Rattle.h41_proved_lines.specs.SumOfRegisters.{AddsUp, HasNumber, HasSum, SumReturns, sum_body, sum_lines, y_parameter}
use Rattle.h41_proved_lines.proofs.AbsoluteDifference.{register_of}
use Rattle.h41_reasoning_lines.proofs.Counters.{continues, counter, counter_ten, ends, number_is, whole_is}

module _ (itself : DecimalIsItsNearest) (registers : DecimalHasOneRegister) (lists : OneList)
    (pages : PageMap) (stack : Stack) (memory : RegisterMap) (at : ℕ) (returns : List Position)
    (n link key distance : ℕ) (end : Line) (closes : ends_program end ≡ true) (sound : is_sound (with_stack stack memory) ≡ true)
    (listed : List ListedLine)
    (few : n < 1000) (inside : n < size_of (with_stack stack memory)) where
  abbrev first_memory : RegisterMap
  first_memory = with_stack stack memory

  -- What a data register contains.
  abbrev content : ℕ → List ℕ
  content i = register_at first_memory (data_address first_memory i)

  module _ (l0 : IsListed first_memory at listed (GlobalLabel link key (codes "SUM")))
      (l1 : IsListed first_memory l0.next l0.rest (Plain functions.Enter))
      (l2 : IsListed first_memory l1.next l1.rest (Number (characters.Zero ∷ [])))
      (l3 : IsListed first_memory l2.next l2.rest (LocalLabel 1))
      (l4 : IsListed first_memory l3.next l3.rest (WithOperand Recall (Indirect y_parameter)))
      (l5 : IsListed first_memory l4.next l4.rest (Plain functions.Add))
      (l6 : IsListed first_memory l5.next l5.rest (WithOperand IncrementSkip (Direct y_parameter)))
      (l7 : IsListed first_memory l6.next l6.rest (ShortGoTo 1 distance))
      (l8 : IsLast first_memory end l7.next l7.rest) where
    module _ (leading : AnswersLocal first_memory l7.next 1 (Some l2.next)) (zero_line lift : Bool) (sum : Ten) where
      abbrev start : Machine
      start = before_line first_memory at zero_line returns lift

      abbrev After : Left → Type 0
      After = HasSum start n (units sum)

      -- At LBL 01: Y contains the counter i.nnn, and X the sum so far.
      pub record IsAtLabel (i : ℕ) (before : Ten) (st : Stack) : Type 0 where
        pub in_y : holding_of st.y ≡ holding.Number (pos (counter i n))
        pub in_x : holding_of st.x ≡ holding.Number (units before)
        pub z : st.z ≡ stack.y

      abbrev at_label : Stack → Machine
      at_label st = after_line (with_stack st memory) l2.next returns true

      -- A round, from a stack.
      module _ (i : ℕ) (before between : Ten) (number : ℤ) (st : Stack) (numbers : IsAtLabel i before st) (order : i ≤ n)
          (has : HasNumber first_memory i number) (nearest : Nearest (units before +ℤ number) 1 (Ok between)) where
        result : (register : List ℕ) × IsRegisterOf (units between) register
        result = register_of registers between

        next_ten : (ten : Ten) × (units ten ≡ pos (counter (i + 1) n))
        next_ten = counter_ten (i + 1) n (omega (arith, order, few)) few

        next_counter : (register : List ℕ) × IsRegisterOf (units next_ten.0) register
        next_counter = register_of registers next_ten.0

        abbrev recalled_stack : Stack
        recalled_stack = record { t = st.z; z = st.y; y = st.x; x = content i; last = st.last }

        abbrev added_stack : Stack
        added_stack = record { t = st.z; z = st.z; y = st.y; x = result.0; last = content i }

        abbrev round_stack : Stack
        round_stack = record { t = st.z; z = st.z; y = next_counter.0; x = result.0; last = content i }

        marked : Continues pages (at_label st) (after_line (with_stack st memory) l3.next returns true)
        marked =
            label pages (with_stack st memory) l2.next l3.next false returns true 1
            (still stack st memory sound l2.next l3.next _ l3.stands)

        means : address_of (with_stack st memory) (Indirect y_parameter) ≡ Ok (data_address first_memory i)
        means =
            indirect (with_stack st memory) y_parameter 2 i (pos (counter i n)) refl numbers.in_y (whole_is i n few)
            (omega (arith, order, inside))

        brought : Continues pages (after_line (with_stack st memory) l3.next returns true)
            (after_line (with_stack recalled_stack memory) l4.next returns true)
        brought =
            subst
            (λ (register : List ℕ). Continues pages (after_line (with_stack st memory) l3.next returns true)
            (after_line (with_stack (record recalled_stack { x = register }) memory) l4.next returns true))
            (same_data stack st memory i sound)
            (recalled pages st memory l3.next l4.next false returns (data_address first_memory i) (Indirect y_parameter) refl means
            (still stack st memory sound l3.next l4.next _ l4.stands) true)

        summed : Continues pages (after_line (with_stack recalled_stack memory) l4.next returns true)
            (after_line (with_stack added_stack memory) l5.next returns true)
        summed =
            of_two pages recalled_stack memory l4.next l5.next false returns true functions.Add (OfTwo twos.Sum places.Y places.X) result.0
            refl
            (still stack recalled_stack memory sound l4.next l5.next _ l5.stands)
            (added recalled_stack memory (units before) number numbers.in_x has between result.0 result.1 nearest)

        abbrev here : RegisterMap
        here = with_stack added_stack memory

        there : IsLineAt here l5.next (WithOperand IncrementSkip (Direct y_parameter)) l6.next
        there = still stack added_stack memory sound l5.next l6.next _ l6.stands

        jump : IsLineAt here l6.next (ShortGoTo 1 distance) l7.next
        jump = still stack added_stack memory sound l6.next l7.next _ l7.stands

        counting : Works here 2 (loop Up) (Ok next_counter.0)
        counting =
            counted here 2 Up (pos (counter i n)) numbers.in_y next_ten.0 next_counter.0 next_counter.1
            (subst (λ (z : ℤ). Nearest z 1 (Ok next_ten.0)) (next_ten.1 ∙ sym (number_is i n few)) (itself next_ten.0))

        up_to_count : (most : ℕ) → Leaves pages most (after_line here l5.next returns true) After
            → Leaves pages (1 + (1 + (1 + most))) (at_label st) After
        up_to_count most rest =
            line_then pages _ _ _ After marked (line_then pages _ _ _ After brought (line_then pages _ _ _ After summed rest))

        next_numbers : IsAtLabel (suc i) between round_stack
        next_numbers = record {
          in_y = next_counter.1.holds ∙ ap holding.Number next_ten.1 ∙ ap (λ (k : ℕ). holding.Number (pos (counter k n))) (omega arith);
          in_x = result.1.holds;
          z = numbers.z;
        }

        -- Another register follows.
        goes_round : (most : ℕ) → suc i ≤ n → Leaves pages most (at_label round_stack) After
            → Leaves pages (1 + (1 + (1 + (1 + (1 + most))))) (at_label st) After
        goes_round most more rest =
            up_to_count (1 + (1 + most))
            (line_then pages _ _ _ After
            (counts_on pages here l5.next l6.next false returns true 2 next_counter.0 IncrementSkip (Direct y_parameter) Up refl refl refl
            refl there counting (tells_loop here 2 Up (pos (counter i n)) numbers.in_y ∙ continues i n few (omega (arith, more))))
            (line_then pages _ _ _ After
            (go_to pages (with_stack round_stack memory) l6.next l7.next false returns true 1 distance l2.next
            (still stack round_stack memory sound l6.next l7.next _ l7.stands)
            (depends.local first_memory (with_stack round_stack memory) l7.next 1 (Some l2.next)
            (same_program stack round_stack memory sound) leading))
            rest))

        -- This was the last register.
        last_round : i ≡ n → sum ≡ between → Leaves pages 5 (at_label st) After
        last_round same total =
            let back =
            ended pages lists (with_stack round_stack memory) l7.next l8.next false returns true end closes
            (still stack round_stack memory sound l7.next l8.next _ l8.stands) in
            up_to_count 2
            (line_then pages 1 _ _ After
            (counts_out pages here l5.next l6.next false returns true 2 next_counter.0 IncrementSkip (Direct y_parameter) Up refl refl refl
            refl there counting _ l7.next jump
            (tells_loop here 2 Up (pos (counter i n)) numbers.in_y ∙ ends i n few same))
            (by_last pages _ back.left After back.step
            record {
              returned = back.returned;
              x = result.0;
              y = next_counter.0;
              is_sum = result.1.holds ∙ ap (λ (ten : Ten). holding.Number (units ten)) (sym total);
              is_counter =
                  next_counter.1.holds ∙ ap holding.Number next_ten.1
                  ∙ ap (λ (k : ℕ). holding.Number (pos (counter (k + 1) n))) same;
              only =
                  back.memory
                  ∙ ap (λ (register : List ℕ). with_stack (record round_stack { t = register; z = register }) memory) numbers.z
                  ∙ ap
                  (λ (k : ℕ). with_stack (record { t = stack.y; z = stack.y; y = next_counter.0; x = result.0; last = content k }) memory)
                  same;
            }))

      one_more : (left : ℕ) → 1 + (1 + (1 + (1 + (1 + (5 * left + 5))))) ≡ 5 * suc left + 5
      one_more left = omega arith

      from_round : (left i : ℕ) (before : Ten) (st : Stack) → i + left ≡ n → IsAtLabel i before st
          → AddsUp first_memory i (suc left) before sum
          → Leaves pages (5 * left + 5) (at_label st) After
      from_round zero i before st order numbers (number, between, has, nearest, total) =
          last_round i before between number st numbers (omega (arith, order)) has nearest (omega (arith, order)) total
      from_round (suc left) i before st order numbers (number, between, has, nearest, others) =
          subst (λ (most : ℕ). Leaves pages most (at_label st) After) (one_more left)
          (goes_round i before between number st numbers (omega (arith, order)) has nearest (5 * left + 5) (omega (arith, order))
          (from_round left (suc i) between
          (round_stack i before between number st numbers (omega (arith, order)) has nearest) (omega (arith, order))
          (next_numbers i before between number st numbers (omega (arith, order)) has nearest) others))

      -- The first three lines.
      zero_register : (register : List ℕ) × IsRegisterOf (units Zero) register
      zero_register = register_of registers Zero

      abbrev entered_stack : Stack
      entered_stack = record { t = stack.z; z = stack.y; y = stack.x; x = stack.x; last = stack.last }

      abbrev zero_stack : Stack
      zero_stack = record { t = stack.z; z = stack.y; y = stack.x; x = zero_register.0; last = stack.last }

      begun : holding_of stack.x ≡ holding.Number (pos (n * 10 ^ 105)) → IsAtLabel 0 Zero zero_stack
      begun in_x =
          let same : n * 10 ^ 105 ≡ counter 0 n = omega arith in
          record { in_y = in_x ∙ ap (λ (k : ℕ). holding.Number (pos k)) same; in_x = zero_register.1.holds; z = refl }

      total_lines : 1 + (1 + (1 + (5 * n + 5))) ≡ 5 * n + 8
      total_lines = omega arith

      pub all_lines : holding_of stack.x ≡ holding.Number (pos (n * 10 ^ 105)) → AddsUp first_memory 0 (suc n) Zero sum
          → Leaves pages (5 * n + 8) start After
      all_lines in_x adds =
          subst (λ (most : ℕ). Leaves pages most start After) total_lines
          (line_then pages _ start _ After
          (global_label pages first_memory at l0.next zero_line returns lift link key (codes "SUM") l0.stands)
          (line_then pages _ _ _ After
          (entered pages stack memory l0.next l1.next false returns lift l1.stands)
          (line_then pages _ _ _ After
          (number_in_x pages entered_stack memory l1.next l2.next false returns 0 (characters.Zero ∷ []) Zero zero_register.0
          record {
            exponent = record { biased = 99; in_range = omega arith };
            biased = refl;
            typed = record { answer = Ok Zero; nearest = refl; value = refl };
          }
          zero_register.1
          (still stack entered_stack memory sound l1.next l2.next _ l2.stands) false)
          (from_round n 0 Zero zero_stack (omega arith) (begun in_x) adds))))

few_registers : (count : ℕ) (memory : RegisterMap) (n : ℕ) → IsMemory count memory → is_sound memory ≡ true → n < size_of memory
    → n < 1000
few_registers count memory n is sound below =
    let known = bounds memory sound in
    omega (arith, is.main, is.most, known.low, known.order, below)

pub sum_returns : DecimalIsItsNearest → DecimalHasOneRegister → OneList → ReadIsDetermined → SumReturns
sum_returns itself registers lists one_reading pages s count at n link key distance end sum is_memory sound place program ends inside
    in_x adds =
    let next : n + 1 ≡ suc n = omega arith in
    by_state at
    (λ (u : Machine). is_sound u.memory ≡ true → IsProgram u.memory at (sum_lines link key distance end) → n < size_of u.memory
    → holding_of (stack_of u.memory).x ≡ holding.Number (pos (n * 10 ^ 105)) → AddsUp u.memory 0 (suc n) Zero sum
    → Leaves pages (5 * n + 8) u (HasSum u n (units sum)))
    (λ stack memory zero returns lift own_sound own_program own_inside own_x own_adds.
    let own : RegisterMap = with_stack stack memory in
    let are = all_in_turn own own_sound at (sum_body link key distance) end own_program.has refl ends in
    let leading =
    leads_back own own_sound one_reading at 1 own_program.has.listed (own_program.has.from.sound own_sound) own_program.begins
    (LocalLabel 1) (ShortGoTo 1 distance) refl refl refl end (GlobalLabel link key (codes "SUM"))
    (Plain functions.Enter ∷ Number (characters.Zero ∷ []) ∷ [])
    (WithOperand Recall (Indirect y_parameter) ∷ Plain functions.Add ∷ WithOperand IncrementSkip (Direct y_parameter) ∷ []) [] are refl
    refl refl refl refl in
    all_lines itself registers lists pages stack memory at returns n link key distance end ends own_sound own_program.has.listed
    (few_registers count s.memory n is_memory sound inside) own_inside are.0 are.1.0 are.1.1.0 are.1.1.1.0 are.1.1.1.1.0 are.1.1.1.1.1.0
    are.1.1.1.1.1.1.0 are.1.1.1.1.1.1.1.0 are.1.1.1.1.1.1.1.1 leading zero lift sum own_x own_adds)
    s is_memory.status place sound program inside in_x
    (subst (λ (count : ℕ). AddsUp s.memory 0 count Zero sum) next adds)
