use Rattle.std.proofs.Common.{◌≡◌, ℕ, ◌+◌, ◌*◌, ◌^◌, ◌<◌, ◌≤◌, ◌⊎◌, Bool, true, false, List, [], ◌∷◌, Some, Ok}
use Rattle.std.proofs.Common.{inl, inr, refl, sym, ap, ◌∙◌, subst, arith}
use Rattle.std.specs.Prelude.{codes, ℤ, pos, ◌<ℤ◌, ◌≤ℤ◌, int_lt}
use Rattle.std.proofs.lemmas.Int.{ints}
use Rattle.h41_codes.specs.declared.characters.Character.TheVariants as characters
use Rattle.h41_codes.specs.declared.functions.Function.TheVariants as functions
use Rattle.h41_codes.specs.declared.functions.RegisterFunction.TheVariants.{RecallRegister, StoreRegister}
use Rattle.h41_codes.specs.declared.line.Line.{Line}
use Rattle.h41_codes.specs.declared.line.Line.TheVariants as lines
use Rattle.h41_decimal.specs.Holding.{Number, holding_of}
use Rattle.h41_decimal.specs.Laws.{DecimalIsItsNearest}
use Rattle.h41_decimal.specs.NearestDecimal.{Nearest}
use Rattle.h41_decimal.specs.Units.{one, units}
use Rattle.h41_decimal.specs.declared.ten.Ten.{Ten}
use Rattle.h41_laws_words.specs.DecimalAnswers.{DecimalHasOneRegister}
use Rattle.h41_focal.specs.LineStep.{Left}
use Rattle.h41_pages.specs.PageMap.{PageMap}
use Rattle.h41_positions.specs.FocalState.{Machine}
use Rattle.h41_positions.specs.declared.position.Position.{Position}
use Rattle.h41_program.specs.ProgramLaws.{OneList, ReadIsDetermined}
use Rattle.h41_program.specs.Searches.{AnswersLocal}
use Rattle.h41_program.specs.declared.listed_line.ListedLine.{ListedLine}
use Rattle.h41_program.proofs.Depends as depends
use Rattle.h41_ram.proofs.Named.{data_read, others_data}
use Rattle.h41_ram.specs.NamedRegisters.{data_address, data_of, size_of, with_data}
use Rattle.h41_ram.specs.RegisterMap.{RegisterMap, is_sound, register_at}
use Rattle.h41_rows.specs.Places.{are_numbers}
use Rattle.h41_rows.specs.Places as places
use Rattle.h41_rows.specs.RowEffects.{holds_in}
use Rattle.h41_rows.specs.Rows as rows
use Rattle.h41_rows.specs.Values.{IsRegisterOf, OfTwo}
use Rattle.h41_rows.specs.declared.values.ValueOfTwo.TheVariants as twos
use Rattle.h41_reasoning_lines.specs.LineRuns.{Continues, Leaves}
use Rattle.h41_reasoning_lines.specs.ProgramLines.{IsProgram, ends_program}
use Rattle.h41_reasoning_lines.specs.Stacks.{Stack, with_stack}
use Rattle.h41_reasoning_lines.proofs.Computing.{added, comparable, divided, squared, tells_below}
use Rattle.h41_reasoning_lines.proofs.DataRegisters.{data_is, same_data, same_data_of, same_program_written}
use Rattle.h41_reasoning_lines.proofs.Listed.{IsLineAt, IsListed, also}
use Rattle.h41_reasoning_lines.proofs.Programs.{IsLast, all_in_turn, leads_on}
use Rattle.h41_reasoning_lines.proofs.Registers.{coming, data_found, number_in_x, recalled_short, stored_short}
use Rattle.h41_reasoning_lines.proofs.Rounds.{by_last, line_then, more_lines_suffice}
use Rattle.h41_reasoning_lines.proofs.Stacks.{same_program, still}
use Rattle.h41_reasoning_lines.proofs.Stepping.{after_line, before_line, by_state, ended, global_label, go_to, label, last_recalled, of_one}
use Rattle.h41_reasoning_lines.proofs.Stepping.{of_two, returned, test_false, test_true}
use Rattle.h41_reasoning_lines.proofs.Wholes.{whole_ten}
use Rattle.h41_reasoning_lines.proofs.WholeSteps.{typed_whole}
use Rattle.h41_proved_lines.specs.Bisection.{Contains, HalvesBracket, HasHalved, IsBracket, IsMiddle, IsSquare, half_body, half_lines}
use Rattle.h41_proved_lines.proofs.AbsoluteDifference.{register_of}

by_below : {P : Type 0} (a b : ℤ) → (int_lt a b ≡ true → a <ℤ b → P) → (int_lt a b ≡ false → b ≤ℤ a → P) → P
by_below {P} a b less most = by (int_lt a b) refl
  where
    by : (t : Bool) → int_lt a b ≡ t → P
    by true is = less is (omega (arith, ints))
    by false is = most is (omega (arith, ints))

-- 2, as the number line writes it.
two : (ten : Ten) × (units ten ≡ pos (2 * one))
two = whole_ten 2 (omega arith)

two_nearest : DecimalIsItsNearest → Nearest (pos (2 * one * 10 ^ 99)) (10 ^ 99) (Ok two.0)
two_nearest itself = typed_whole itself 2 two.0 (omega arith) two.1

module _ (itself : DecimalIsItsNearest) (registers : DecimalHasOneRegister) (lists : OneList)
    (pages : PageMap) (stack : Stack) (memory : RegisterMap) (at : ℕ) (returns : List Position)
    (link key distance : ℕ) (end : Line) (ends : ends_program end ≡ true) (sound : is_sound (with_stack stack memory) ≡ true)
    (listed : List ListedLine)
    (enough : 2 < size_of (with_stack stack memory)) where
  abbrev first_memory : RegisterMap
  first_memory = with_stack stack memory

  module _ (l0 : IsListed first_memory at listed (lines.GlobalLabel link key (codes "HALF")))
      (l1 : IsListed first_memory l0.next l0.rest (lines.Register RecallRegister 1))
      (l2 : IsListed first_memory l1.next l1.rest (lines.Register RecallRegister 2))
      (l3 : IsListed first_memory l2.next l2.rest (lines.Plain functions.Add))
      (l4 : IsListed first_memory l3.next l3.rest (lines.Number (characters.Two ∷ [])))
      (l5 : IsListed first_memory l4.next l4.rest (lines.Plain functions.Divide))
      (l6 : IsListed first_memory l5.next l5.rest (lines.Plain functions.Square))
      (l7 : IsListed first_memory l6.next l6.rest (lines.Register RecallRegister 0))
      (l8 : IsListed first_memory l7.next l7.rest (lines.Plain functions.TestXLessThanY))
      (l9 : IsListed first_memory l8.next l8.rest (lines.ShortGoTo 2 distance))
      (l10 : IsListed first_memory l9.next l9.rest (lines.Plain functions.LastX))
      (l11 : IsListed first_memory l10.next l10.rest (lines.Register StoreRegister 1))
      (l12 : IsListed first_memory l11.next l11.rest (lines.Plain functions.Return))
      (l13 : IsListed first_memory l12.next l12.rest (lines.LocalLabel 2))
      (l14 : IsListed first_memory l13.next l13.rest (lines.Plain functions.LastX))
      (l15 : IsListed first_memory l14.next l14.rest (lines.Register StoreRegister 2))
      (l16 : IsLast first_memory end l15.next l15.rest) where
    module _ (leading : AnswersLocal first_memory l9.next 2 (Some l12.next)) (number low high : ℤ) (middle square : Ten)
        (bracket : IsBracket first_memory number low high) (half : IsMiddle low high middle) (is_square : IsSquare (units middle) square)
        (zero_line lift : Bool) where
      abbrev start : Machine
      start = before_line first_memory at zero_line returns lift

      abbrev After : Left → Type 0
      After = HasHalved start number low high (units middle)

      below : (i : ℕ) → i ≤ 2 → i < size_of first_memory
      below i small = omega (arith, small, enough)

      -- What RCL brings.
      brought : (i : ℕ) → i ≤ 2 → (register : List ℕ) → data_of first_memory i ≡ Some register → (st : Stack)
          → register_at (with_stack st memory) (data_address first_memory i) ≡ register
      brought i small register is st =
          same_data stack st memory i sound ∙ data_is first_memory i register (below i small) is

      abbrev lifted : Stack → List ℕ → Stack
      lifted st register = record { t = st.z; z = st.y; y = st.x; x = register; last = st.last }

      recalled_as : (on : Bool) (i : ℕ) → i ≤ 2 → (register : List ℕ) → data_of first_memory i ≡ Some register → (st : Stack)
          (from to : ℕ) → IsLineAt first_memory from (lines.Register RecallRegister i) to
          → Continues pages (after_line (with_stack st memory) from returns on)
          (after_line (with_stack (coming on st register) memory) to returns true)
      recalled_as on i small register is st from to line =
          subst
          (λ (r : List ℕ). Continues pages (after_line (with_stack st memory) from returns on)
          (after_line (with_stack (coming on st r) memory) to returns true))
          (brought i small register is st)
          (recalled_short pages st memory from to false returns (data_address first_memory i) i
          (data_found (with_stack st memory) i (below i small)) (still stack st memory sound from to _ line) on)

      -- The first RCL, with stack lift on or off.
      abbrev low_stack : Stack
      low_stack = coming lift stack bracket.in_1.0

      low_in_x : (on : Bool) → holding_of (coming on stack bracket.in_1.0).x ≡ Number low
      low_in_x true = bracket.in_1.2
      low_in_x false = bracket.in_1.2

      -- The registers that the lines compute.
      sum_register : (register : List ℕ) × IsRegisterOf (units half.0) register
      sum_register = register_of registers half.0

      two_register : (register : List ℕ) × IsRegisterOf (units two.0) register
      two_register = register_of registers two.0

      middle_register : (register : List ℕ) × IsRegisterOf (units middle) register
      middle_register = register_of registers middle

      square_register : (register : List ℕ) × IsRegisterOf (units square) register
      square_register = register_of registers square

      -- The stack after each line.
      abbrev both_stack : Stack
      both_stack = lifted low_stack bracket.in_2.0

      abbrev sum_stack : Stack
      sum_stack = record { t = both_stack.t; z = both_stack.t; y = both_stack.z; x = sum_register.0; last = both_stack.x }

      abbrev two_stack : Stack
      two_stack = lifted sum_stack two_register.0

      abbrev middle_stack : Stack
      middle_stack = record { t = two_stack.t; z = two_stack.t; y = two_stack.z; x = middle_register.0; last = two_stack.x }

      abbrev square_stack : Stack
      square_stack = record middle_stack { x = square_register.0; last = middle_register.0 }

      abbrev test_stack : Stack
      test_stack = lifted square_stack bracket.in_0.0

      abbrev last_stack : Stack
      last_stack = lifted test_stack middle_register.0

      abbrev here : RegisterMap
      here = with_stack test_stack memory

      up_to_test : (most : ℕ) → Leaves pages most (after_line here l7.next returns true) After
          → Leaves pages (1 + (1 + (1 + (1 + (1 + (1 + (1 + (1 + most)))))))) start After
      up_to_test most rest =
          line_then pages _ _ _ After
          (global_label pages first_memory at l0.next zero_line returns lift link key (codes "HALF") l0.stands)
          (line_then pages _ _ _ After
          (recalled_as lift 1 (omega arith) bracket.in_1.0 bracket.in_1.1 stack l0.next l1.next l1.stands)
          (line_then pages _ _ _ After
          (recalled_as true 2 (omega arith) bracket.in_2.0 bracket.in_2.1 low_stack l1.next l2.next l2.stands)
          (line_then pages _ _ _ After
          (of_two pages both_stack memory l2.next l3.next false returns true functions.Add (OfTwo twos.Sum places.Y places.X)
          sum_register.0 refl
          (still stack both_stack memory sound l2.next l3.next _ l3.stands)
          (added both_stack memory low high (low_in_x lift) bracket.in_2.2 half.0 sum_register.0 sum_register.1 half.1))
          (line_then pages _ _ _ After
          (number_in_x pages sum_stack memory l3.next l4.next false returns 0 (characters.Two ∷ []) two.0 two_register.0
          record {
            exponent = record { biased = 99; in_range = omega arith };
            biased = refl;
            typed = record { answer = Ok two.0; nearest = two_nearest itself; value = refl };
          }
          two_register.1 (still stack sum_stack memory sound l3.next l4.next _ l4.stands) true)
          (line_then pages _ _ _ After
          (of_two pages two_stack memory l4.next l5.next false returns true functions.Divide (OfTwo twos.Quotient places.Y places.X)
          middle_register.0 refl
          (still stack two_stack memory sound l4.next l5.next _ l5.stands)
          (divided two_stack memory (units half.0) (pos (2 * one)) sum_register.1.holds (two_register.1.holds ∙ ap Number two.1) middle
          middle_register.0 middle_register.1 half.2))
          (line_then pages _ _ _ After
          (of_one pages middle_stack memory l5.next l6.next false returns true functions.Square (OfTwo twos.Product places.X places.X)
          square_register.0 refl
          (still stack middle_stack memory sound l5.next l6.next _ l6.stands)
          (squared middle_stack memory (units middle) middle_register.1.holds square square_register.0 square_register.1 is_square))
          (line_then pages _ _ _ After
          (recalled_as true 0 (omega arith) bracket.in_0.0 bracket.in_0.1 square_stack l6.next l7.next l7.stands)
          rest)))))))

      -- What X<Y? compares: the number with the square of the middle.
      tells : holds_in here 0 (rows.Below (rows.In places.X) (rows.In places.Y)) ≡ int_lt number (units square)
      tells = tells_below test_stack memory (units square) number square_register.1.holds bracket.in_0.2

      numbers_there : are_numbers here 0 (places.X ∷ places.Y ∷ []) ≡ true
      numbers_there = comparable test_stack memory (units square) number square_register.1.holds bracket.in_0.2

      -- Memory after a bound was stored.
      module _ (changed : ℕ) (is_bound : (changed ≡ 1) ⊎ (changed ≡ 2)) (small : changed ≤ 2) where
        abbrev before_store : RegisterMap
        before_store = with_stack last_stack memory

        abbrev stored : RegisterMap
        stored = with_data before_store changed middle_register.0

        sound_there : is_sound before_store ≡ true
        sound_there = (still stack last_stack memory sound l15.next l16.next _ l16.stands).sound

        stays : (i : ℕ) (x : ℤ) → (i ≡ changed → ⊥) → Contains first_memory i x → Contains stored i x
        stays i x other has = (
          has.0,
          others_data before_store changed i middle_register.0 sound_there other ∙ same_data_of stack last_stack memory i sound ∙ has.1,
          has.2,
        )

        new_one : Contains stored changed (units middle)
        new_one = (
          middle_register.0,
          data_read before_store changed middle_register.0 sound_there (below changed small),
          middle_register.1.holds,
        )

        lines_stay : (from to : ℕ) (line : Line) → IsLineAt first_memory from line to → IsLineAt stored from line to
        lines_stay from to line is =
            also before_store stored from line to (same_program_written before_store changed middle_register.0 sound_there)
            (still stack last_stack memory sound from to line is)

      -- The middle is the new upper bound.
      upper : int_lt number (units square) ≡ true → number <ℤ units square → Leaves pages 6 (after_line here l7.next returns true) After
      upper is less =
          let back =
          ended pages lists (stored 2 (inr refl) (omega arith)) l15.next l16.next false returns true end ends
          (lines_stay 2 (inr refl) (omega arith) l15.next l16.next _ l16.stands) in
          line_then pages _ _ _ After
          (test_true pages here l7.next l8.next false returns true functions.TestXLessThanY
          (rows.Below (rows.In places.X) (rows.In places.Y)) refl
          (still stack test_stack memory sound l7.next l8.next _ l8.stands) numbers_there (tells ∙ is))
          (line_then pages _ _ _ After
          (go_to pages here l8.next l9.next false returns true 2 distance l12.next
          (still stack test_stack memory sound l8.next l9.next _ l9.stands)
          (depends.local first_memory here l9.next 2 (Some l12.next) (same_program stack test_stack memory sound) leading))
          (line_then pages _ _ _ After
          (label pages here l12.next l13.next false returns true 2 (still stack test_stack memory sound l12.next l13.next _ l13.stands))
          (line_then pages _ _ _ After
          (last_recalled pages test_stack memory l13.next l14.next false returns
          (still stack test_stack memory sound l13.next l14.next _ l14.stands))
          (line_then pages _ _ _ After
          (stored_short pages last_stack memory l14.next l15.next false returns (data_address first_memory 2) true 2
          (data_found (with_stack last_stack memory) 2 (below 2 (omega arith)))
          (still stack last_stack memory sound l14.next l15.next _ l15.stands))
          (by_last pages _ back.left After back.step
          record {
            returned = back.returned;
            new_low = low;
            new_high = units middle;
            bracket =
                subst (λ (m : RegisterMap). IsBracket m number low (units middle)) (sym back.memory)
                record {
                  in_0 = stays 2 (inr refl) (omega arith) 0 number (λ same. absurd (omega (arith, same))) bracket.in_0;
                  in_1 = stays 2 (inr refl) (omega arith) 1 low (λ same. absurd (omega (arith, same))) bracket.in_1;
                  in_2 = new_one 2 (inr refl) (omega arith);
                  low_square = bracket.low_square;
                  high_square = square;
                  is_low = bracket.is_low;
                  is_high = is_square;
                  at_most = bracket.at_most;
                  above = less;
                };
            halves = inr (refl, refl);
            stack = last_stack;
            changed = 2;
            is_bound = inr refl;
            register = middle_register.0;
            only = back.memory;
          })))))

      -- The middle is the new lower bound.
      lower : int_lt number (units square) ≡ false → units square ≤ℤ number → Leaves pages 4 (after_line here l7.next returns true) After
      lower is most =
          let back =
          returned pages lists (stored 1 (inl refl) (omega arith)) l11.next l12.next false returns true
          (lines_stay 1 (inl refl) (omega arith) l11.next l12.next _ l12.stands) in
          line_then pages _ _ _ After
          (test_false pages here l7.next l8.next false returns true functions.TestXLessThanY
          (rows.Below (rows.In places.X) (rows.In places.Y)) refl
          (still stack test_stack memory sound l7.next l8.next _ l8.stands) numbers_there _ l9.next
          (still stack test_stack memory sound l8.next l9.next _ l9.stands) (tells ∙ is))
          (line_then pages _ _ _ After
          (last_recalled pages test_stack memory l9.next l10.next false returns
          (still stack test_stack memory sound l9.next l10.next _ l10.stands))
          (line_then pages _ _ _ After
          (stored_short pages last_stack memory l10.next l11.next false returns (data_address first_memory 1) true 1
          (data_found (with_stack last_stack memory) 1 (below 1 (omega arith)))
          (still stack last_stack memory sound l10.next l11.next _ l11.stands))
          (by_last pages _ back.left After back.step
          record {
            returned = back.returned;
            new_low = units middle;
            new_high = high;
            bracket =
                subst (λ (m : RegisterMap). IsBracket m number (units middle) high) (sym back.memory)
                record {
                  in_0 = stays 1 (inl refl) (omega arith) 0 number (λ same. absurd (omega (arith, same))) bracket.in_0;
                  in_1 = new_one 1 (inl refl) (omega arith);
                  in_2 = stays 1 (inl refl) (omega arith) 2 high (λ same. absurd (omega (arith, same))) bracket.in_2;
                  low_square = square;
                  high_square = bracket.high_square;
                  is_low = is_square;
                  is_high = bracket.is_high;
                  at_most = most;
                  above = bracket.above;
                };
            halves = inl (refl, refl);
            stack = last_stack;
            changed = 1;
            is_bound = inl refl;
            register = middle_register.0;
            only = back.memory;
          })))

      pub all_lines : Leaves pages 14 start After
      all_lines =
          up_to_test 6
          (by_below number (units square) upper
          (λ is most. more_lines_suffice pages 4 6 _ After (omega arith) (lower is most)))

pub halves_bracket : DecimalIsItsNearest → DecimalHasOneRegister → OneList → ReadIsDetermined → HalvesBracket
halves_bracket itself registers lists one_reading pages s count at link key distance end number low high middle square is_memory sound place
    program ends enough bracket half is_square =
    by_state at
    (λ (u : Machine). is_sound u.memory ≡ true → IsProgram u.memory at (half_lines link key distance end) → 2 < size_of u.memory
    → IsBracket u.memory number low high
    → Leaves pages 14 u (HasHalved u number low high (units middle)))
    (λ stack memory zero returns lift own_sound own_program own_enough own_bracket.
    let own : RegisterMap = with_stack stack memory in
    let are = all_in_turn own own_sound at (half_body link key distance) end own_program.has refl ends in
    let b = are.1.1.1.1.1.1 in
    let c = b.1.1.1.1.1.1 in
    let leading =
    leads_on own own_sound one_reading at 2 own_program.has.listed (own_program.has.from.sound own_sound) own_program.begins
    (lines.LocalLabel 2) (lines.ShortGoTo 2 distance) refl refl refl end
    (lines.GlobalLabel link key (codes "HALF") ∷ lines.Register RecallRegister 1 ∷ lines.Register RecallRegister 2
    ∷ lines.Plain functions.Add ∷ lines.Number (characters.Two ∷ []) ∷ lines.Plain functions.Divide ∷ lines.Plain functions.Square
    ∷ lines.Register RecallRegister 0 ∷ lines.Plain functions.TestXLessThanY ∷ [])
    (lines.Plain functions.LastX) (lines.Register StoreRegister 1 ∷ lines.Plain functions.Return ∷ [])
    (lines.Plain functions.LastX ∷ lines.Register StoreRegister 2 ∷ []) are refl refl refl in
    all_lines itself registers lists pages stack memory at returns link key distance end ends own_sound own_program.has.listed own_enough
    are.0 are.1.0 are.1.1.0 are.1.1.1.0 are.1.1.1.1.0 are.1.1.1.1.1.0 b.0 b.1.0 b.1.1.0 b.1.1.1.0 b.1.1.1.1.0 b.1.1.1.1.1.0
    c.0 c.1.0 c.1.1.0 c.1.1.1.0 c.1.1.1.1 leading number low high middle square own_bracket half is_square zero lift)
    s is_memory.status place sound program enough bracket
