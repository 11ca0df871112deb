use Rattle.std.proofs.Common.{◌≡◌, ◌≢◌, ℕ, zero, suc, ◌+◌, ◌*◌, ◌^◌, ◌<◌, ◌≤◌, Bool, true, false, List, [], ◌∷◌, Some, Ok, length}
use Rattle.std.proofs.Common.{inl, inr, refl, sym, ap, ◌∙◌, subst, arith}
use Rattle.std.specs.Prelude.{codes, ℤ, pos, int_lt, unsigned_abs}
use Rattle.h41_codes.specs.declared.functions.NameFunction.TheVariants.{ExecuteName}
use Rattle.h41_codes.specs.declared.functions.ParameterFunction.TheVariants.{DecrementSkip}
use Rattle.h41_codes.specs.declared.line.Line.{Line}
use Rattle.h41_codes.specs.declared.line.Line.TheVariants as lines
use Rattle.h41_codes.specs.declared.line.Operand.TheVariants.{Direct}
use Rattle.h41_decimal.specs.Holding.{Number, holding_of}
use Rattle.h41_decimal.specs.Laws.{DecimalIsItsNearest}
use Rattle.h41_decimal.specs.NearestDecimal.{Nearest}
use Rattle.h41_decimal.specs.Units.{one, units}
use Rattle.h41_decimal.specs.declared.ten.Ten.{Ten}
use Rattle.h41_laws_words.specs.DecimalAnswers.{DecimalHasOneRegister, FractionHasOneNearest}
use Rattle.h41_focal.specs.Destinations.{with_return}
use Rattle.h41_focal.specs.LineStep.{Left, Works, left_done}
use Rattle.h41_pages.specs.PageMap.{PageMap}
use Rattle.h41_positions.specs.FocalState.{Machine}
use Rattle.h41_positions.specs.declared.position.Position.{Position}
use Rattle.h41_positions.specs.declared.position.Position.TheVariants.{Memory}
use Rattle.h41_program.specs.ProgramLaws.{OneList, ReadIsDetermined}
use Rattle.h41_program.specs.Searches.{AnswersLocal, named_in, position_of}
use Rattle.h41_program.specs.declared.listed_line.ListedLine.{ListedLine}
use Rattle.h41_program.proofs.Depends as depends
use Rattle.h41_ram.proofs.Named.{data_read, others_data}
use Rattle.h41_ram.specs.NamedRegisters.{data_address, data_of, size_of, with_data}
use Rattle.h41_ram.specs.RegisterMap.{IsMemory, RegisterMap, is_sound, register_at}
use Rattle.h41_rows.specs.Counters.{Down}
use Rattle.h41_rows.specs.LineRows.{loop}
use Rattle.h41_rows.specs.Values.{IsRegisterOf}
use Rattle.h41_reasoning_lines.specs.LineRuns.{Continues, Leaves, WithinSteps}
use Rattle.h41_reasoning_lines.specs.ProgramLines.{FindsName, IsProgram, ends_program}
use Rattle.h41_reasoning_lines.specs.Stacks.{with_stack}
use Rattle.h41_reasoning_lines.specs.Subroutines.{IsBack}
use Rattle.h41_reasoning_lines.proofs.Calls.{rebuilt}
use Rattle.h41_reasoning_lines.proofs.DataRegisters.{data_is, data_with_stack, same_size, sound_with_stack}
use Rattle.h41_reasoning_lines.proofs.Listed.{IsLineAt, IsListed, also}
use Rattle.h41_reasoning_lines.proofs.Programs.{IsLast, all_in_turn, leads_back, program_also}
use Rattle.h41_reasoning_lines.proofs.Registers.{counted, counts_on, counts_out, direct, tells_loop}
use Rattle.h41_reasoning_lines.proofs.Rounds.{by_last, leaves_as, leaves_in_turn, line_then}
use Rattle.h41_reasoning_lines.proofs.Stepping.{after_line, before_line, ended, executes_named, global_label, go_to, label, own_place}
use Rattle.h41_reasoning_lines.proofs.Subroutines.{call_returns}
use Rattle.h41_reasoning_lines.proofs.Wholes.{lt_holds, whole, whole_ten}
use Rattle.h41_proved_lines.specs.Bisection.{Contains, HasHalved, IsBracket, IsMiddle, IsSquare, half_lines}
use Rattle.h41_proved_lines.specs.BisectionLoop.{BisectionReturns, Halvings, HasBisected, KeepsOthers, bisect_body, greatest_bound}
use Rattle.h41_proved_lines.proofs.AbsoluteDifference.{register_of}
use Rattle.h41_proved_lines.proofs.Bisection.{halves_bracket}
use Rattle.h41_proved_lines.proofs.Bounds.{Keeps, keeps_all, keeps_data, keeps_memory, keeps_on, keeps_stack}
use Rattle.h41_reasoning_lines.proofs.Counters.{number_down_whole, tested_down_whole}
use Rattle.h41_proved_lines.proofs.HalvingRange.{middle_there, square_there}

-- A bracket in one memory is one in another if R00, R01 and R02 contain the same.
pub same_bracket : (memory other : RegisterMap) (number low high : ℤ)
    → ((i : ℕ) → i ≤ 2 → data_of other i ≡ data_of memory i) → IsBracket memory number low high → IsBracket other number low high
same_bracket memory other number low high same is = record {
  in_0 = (is.in_0.0, same 0 (omega arith) ∙ is.in_0.1, is.in_0.2);
  in_1 = (is.in_1.0, same 1 (omega arith) ∙ is.in_1.1, is.in_1.2);
  in_2 = (is.in_2.0, same 2 (omega arith) ∙ is.in_2.1, is.in_2.2);
  low_square = is.low_square;
  high_square = is.high_square;
  is_low = is.is_low;
  is_high = is.is_high;
  at_most = is.at_most;
  above = is.above;
}

module _ (itself : DecimalIsItsNearest) (registers : DecimalHasOneRegister) (lists : OneList) (one_reading : ReadIsDetermined)
    (nearest : FractionHasOneNearest) (pages : PageMap) (count at : ℕ) (returns : List Position) (few : length returns ≤ 5)
    (end : Line) (ends : ends_program end ≡ true) (half half_link half_key half_distance : ℕ) (half_end : Line)
    (half_ends : ends_program half_end ≡ true) (first : RegisterMap) (is_memory : IsMemory count first) (sound : is_sound first ≡ true)
    (enough : 3 < size_of first) (half_program : IsProgram first half (half_lines half_link half_key half_distance half_end))
    (finds : FindsName first (codes "HALF") half) (link key distance : ℕ) (listed : List ListedLine)
    (number : ℤ) where
  module _ (l0 : IsListed first at listed (lines.GlobalLabel link key (codes "BISECT")))
      (l1 : IsListed first l0.next l0.rest (lines.LocalLabel 1))
      (l2 : IsListed first l1.next l1.rest (lines.Named ExecuteName (codes "HALF")))
      (l3 : IsListed first l2.next l2.rest (lines.WithOperand DecrementSkip (Direct 3)))
      (l4 : IsListed first l3.next l3.rest (lines.ShortGoTo 1 distance)) (l5 : IsLast first end l4.next l4.rest)
      (leading : AnswersLocal first l4.next 1 (Some l0.next)) (zero_line first_lift : Bool) where
    abbrev start : Machine
    start = before_line first at zero_line returns first_lift

    -- At LBL 01, with this many rounds to go.
    pub record IsAtLabel (left : ℕ) (low high : ℤ) (memory : RegisterMap) : Type 0 where
      pub keeps : Keeps first memory
      pub bracket : IsBracket memory number low high
      pub in_3 : Contains memory 3 (whole left)
      pub low_size : unsigned_abs low ≤ greatest_bound
      pub high_size : unsigned_abs high ≤ greatest_bound

    -- What each memory is that has the same program.
    module _ (memory : RegisterMap) (keeps : Keeps first memory) where
      there : (from to : ℕ) (line : Line) → IsLineAt first from line to → IsLineAt memory from line to
      there from to line is = also first memory from line to keeps.program is

      memory_there : IsMemory count memory
      memory_there = keeps_memory count first memory is_memory keeps.only

      sound_there : is_sound memory ≡ true
      sound_there = sym (depends.soundness first memory keeps.program) ∙ sound

      enough_there : 3 < size_of memory
      enough_there = subst (λ (n : ℕ). 3 < n) (same_size first memory keeps.program) enough

    -- The end of a round: DSE, in a memory with this bracket.
    module _ (left : ℕ) (small : left < 10 ^ 10) (low high : ℤ) (memory : RegisterMap) (here : IsAtLabel (suc left) low high memory)
        (lift : Bool) where
      abbrev counter_address : ℕ
      counter_address = data_address memory 3

      holds : holding_of (register_at memory counter_address) ≡ Number (whole (suc left))
      holds =
          ap holding_of (data_is memory 3 here.in_3.0 (enough_there memory here.keeps) here.in_3.1) ∙ here.in_3.2

      next_ten : (ten : Ten) × (units ten ≡ whole left)
      next_ten = whole_ten left small

      next_register : (register : List ℕ) × IsRegisterOf (units next_ten.0) register
      next_register = register_of registers next_ten.0

      works : Works memory counter_address (loop Down) (Ok next_register.0)
      works =
          counted memory counter_address Down (whole (suc left)) holds next_ten.0 next_register.0 next_register.1
          (subst (λ (z : ℤ). Nearest z 1 (Ok next_ten.0)) (next_ten.1 ∙ sym (number_down_whole left)) (itself next_ten.0))

      abbrev counted_memory : RegisterMap
      counted_memory = with_data memory 3 next_register.0

      counted_keeps : Keeps first counted_memory
      counted_keeps =
          keeps_on first memory counted_memory here.keeps
          (keeps_data memory 3 next_register.0 (sound_there memory here.keeps) (λ address one two three. three))

      others_stay : (i : ℕ) → i ≤ 2 → data_of counted_memory i ≡ data_of memory i
      others_stay i under =
          others_data memory 3 i next_register.0 (sound_there memory here.keeps) (λ same. absurd (omega (arith, same, under)))

      next_here : IsAtLabel left low high counted_memory
      next_here = record {
        keeps = counted_keeps;
        bracket = same_bracket memory counted_memory number low high others_stay here.bracket;
        in_3 = (
          next_register.0,
          data_read memory 3 next_register.0 (sound_there memory here.keeps) (enough_there memory here.keeps),
          next_register.1.holds ∙ ap Number next_ten.1,
        );
        low_size = here.low_size;
        high_size = here.high_size;
      }

      -- Another round follows.
      goes_round : (After : Left → Type 0) (most : ℕ) → 0 < left
          → Leaves pages most (after_line counted_memory l0.next returns true) After
          → Leaves pages (1 + (1 + most)) (before_line memory l2.next false returns lift) After
      goes_round After most more rest =
          line_then pages _ _ _ After
          (counts_on pages memory l2.next l3.next false returns lift counter_address next_register.0 DecrementSkip (Direct 3) Down refl refl
          refl
          (direct memory 3 (omega arith) (enough_there memory here.keeps)) (there memory here.keeps l2.next l3.next _ l3.stands) works
          (tells_loop memory counter_address Down (whole (suc left)) holds ∙ tested_down_whole left ∙ lt_holds 0 left more))
          (line_then pages _ _ _ After
          (go_to pages counted_memory l3.next l4.next false returns true 1 distance l0.next
          (there counted_memory counted_keeps l3.next l4.next _ l4.stands)
          (depends.local first counted_memory l4.next 1 (Some l0.next) counted_keeps.program leading))
          rest)

      -- This was the last round.
      last_round : left ≡ 0 → (rounds : ℕ) (first_low first_high : ℤ) → Halvings rounds first_low first_high low high
          → Leaves pages 2 (before_line memory l2.next false returns lift) (HasBisected start rounds number first_low first_high)
      last_round none rounds first_low first_high halved =
          let back =
          ended pages lists counted_memory l4.next l5.next false returns true end ends
          (there counted_memory counted_keeps l4.next l5.next _ l5.stands) in
          line_then pages 1 _ _ (HasBisected start rounds number first_low first_high)
          (counts_out pages memory l2.next l3.next false returns lift counter_address next_register.0 DecrementSkip (Direct 3) Down refl
          refl refl
          (direct memory 3 (omega arith) (enough_there memory here.keeps)) (there memory here.keeps l2.next l3.next _ l3.stands) works _
          l4.next (there memory here.keeps l3.next l4.next _ l4.stands)
          (tells_loop memory counter_address Down (whole (suc left)) holds ∙ tested_down_whole left
          ∙ ap (λ (n : ℕ). int_lt (pos 0) (pos n)) none))
          (by_last pages _ back.left (HasBisected start rounds number first_low first_high) back.step
          record {
            returned = back.returned;
            new_low = low;
            new_high = high;
            halved = halved;
            bracket =
                subst (λ (m : RegisterMap). IsBracket m number low high) (sym back.memory) next_here.bracket;
            counted =
                subst (λ (m : RegisterMap). Contains m 3 (pos 0)) (sym back.memory)
                (subst (λ (n : ℕ). Contains counted_memory 3 (whole n)) none next_here.in_3);
            only = subst (λ (m : RegisterMap). KeepsOthers first m) (sym back.memory) counted_keeps.only;
          })

    -- A round calls HALF.
    module _ (left : ℕ) (low high : ℤ) (memory : RegisterMap) (here : IsAtLabel (suc left) low high memory) (line_00 lift : Bool) where
      abbrev at_call : Machine
      at_call = before_line memory l1.next false returns lift

      abbrev called : Machine
      called = after_line memory half (with_return returns (Memory l2.next)) lift

      middle : (middle : Ten) × IsMiddle low high middle × (unsigned_abs (units middle) ≤ greatest_bound)
      middle = middle_there nearest low high here.low_size here.high_size

      square : (square : Ten) × IsSquare (units middle.0) square
      square = square_there nearest (units middle.0) middle.2

      abbrev Halved : Left → Type 0
      Halved = HasHalved called number low high (units middle.0)

      call : Continues pages at_call called
      call =
          executes_named pages memory l1.next l2.next false returns lift (codes "HALF") half
          (there memory here.keeps l1.next l2.next _ l2.stands)
          (depends.answers first memory (λ listed_lines. position_of (named_in (codes "HALF") listed_lines)) 0 (Some half)
          here.keeps.program finds)

      halving : Leaves pages 14 called Halved
      halving =
          halves_bracket itself registers lists one_reading pages called count half half_link half_key half_distance half_end number
          low high middle.0 square.0 (memory_there memory here.keeps) (sound_there memory here.keeps) refl
          (program_also first memory half (half_lines half_link half_key half_distance half_end) here.keeps.program half_program) half_ends
          (let more = enough_there memory here.keeps in omega (arith, more)) here.bracket middle.1 square.1

      halved : WithinSteps pages 15 at_call (IsBack at_call (Memory l2.next) Halved)
      halved = call_returns pages 14 at_call called (Memory l2.next) Halved call refl few (λ one is. is.returned) halving

      -- What is true after the call.
      module _ (u : Machine) (back : IsBack at_call (Memory l2.next) Halved u) where
        abbrev result : HasHalved called number low high (units middle.0) (left_done u)
        result = back.property

        abbrev with_other : RegisterMap
        with_other = with_stack result.stack memory

        stacked : Keeps memory with_other
        stacked = keeps_stack result.stack memory (memory_there memory here.keeps).status (sound_there memory here.keeps)

        sound_stacked : is_sound with_other ≡ true
        sound_stacked = sound_with_stack result.stack memory (memory_there memory here.keeps).status (sound_there memory here.keeps)

        among : (address : ℕ) → address ≢ data_address with_other 1 → address ≢ data_address with_other 2
            → address ≢ data_address with_other 3 → address ≢ data_address with_other result.changed
        among address one two three =
            elim result.is_bound [
              | inl is ↦ subst (λ (n : ℕ). address ≢ data_address with_other n) (sym is) one
              | inr is ↦ subst (λ (n : ℕ). address ≢ data_address with_other n) (sym is) two
            ]

        not_three : 3 ≢ result.changed
        not_three same =
            elim result.is_bound [ inl is ↦ absurd (omega (arith, same, is)) | inr is ↦ absurd (omega (arith, same, is)) ]

        written : Keeps memory (with_data with_other result.changed result.register)
        written =
            keeps_on memory with_other (with_data with_other result.changed result.register) stacked
            (keeps_data with_other result.changed result.register sound_stacked among)

        now_keeps : Keeps first u.memory
        now_keeps =
            keeps_on first memory u.memory here.keeps (subst (λ (m : RegisterMap). Keeps memory m) (sym result.only) written)

        counter_stays : data_of u.memory 3 ≡ data_of memory 3
        counter_stays =
            ap (λ (m : RegisterMap). data_of m 3) result.only
            ∙ others_data with_other result.changed 3 result.register sound_stacked not_three
            ∙ data_with_stack result.stack memory (memory_there memory here.keeps).status (sound_there memory here.keeps) 3

        new_sizes : (unsigned_abs result.new_low ≤ greatest_bound) × (unsigned_abs result.new_high ≤ greatest_bound)
        new_sizes = elim result.halves [
          | inl is ↦ (
            subst (λ (z : ℤ). unsigned_abs z ≤ greatest_bound) (sym is.0) middle.2,
            subst (λ (z : ℤ). unsigned_abs z ≤ greatest_bound) (sym is.1) here.high_size,
          )
          | inr is ↦ (
            subst (λ (z : ℤ). unsigned_abs z ≤ greatest_bound) (sym is.0) here.low_size,
            subst (λ (z : ℤ). unsigned_abs z ≤ greatest_bound) (sym is.1) middle.2,
          )
        ]

        now_here : IsAtLabel (suc left) result.new_low result.new_high u.memory
        now_here = record {
          keeps = now_keeps;
          bracket = result.bracket;
          in_3 = (here.in_3.0, counter_stays ∙ here.in_3.1, here.in_3.2);
          low_size = new_sizes.0;
          high_size = new_sizes.1;
        }

        more_halvings : (rounds : ℕ) (new_low new_high : ℤ) → Halvings rounds result.new_low result.new_high new_low new_high
            → Halvings (suc rounds) low high new_low new_high
        more_halvings rounds new_low new_high halvings = elim result.halves [
          | inl is ↦ (
            middle.0,
            middle.1,
            inl
                (subst (λ (z : ℤ). Halvings rounds z high new_low new_high) is.0
                (subst (λ (z : ℤ). Halvings rounds result.new_low z new_low new_high) is.1 halvings)),
          )
          | inr is ↦ (
            middle.0,
            middle.1,
            inr
                (subst (λ (z : ℤ). Halvings rounds z (units middle.0) new_low new_high) is.0
                (subst (λ (z : ℤ). Halvings rounds result.new_low z new_low new_high) is.1 halvings)),
          )
        ]

        bisected_more : (rounds : ℕ) (end_state : Left) → HasBisected start rounds number result.new_low result.new_high end_state
            → HasBisected start (suc rounds) number low high end_state
        bisected_more rounds end_state has = record {
          returned = has.returned;
          new_low = has.new_low;
          new_high = has.new_high;
          halved = more_halvings rounds has.new_low has.new_high has.halved;
          bracket = has.bracket;
          counted = has.counted;
          only = has.only;
        }

        same_state : u ≡ before_line u.memory l2.next false returns u.focal.lift
        same_state = rebuilt at_call u l2.next Halved back

      -- LBL 01, and XEQ with the lines of HALF, before the other lines.
      round_then : (After : Left → Type 0) (most : ℕ)
          → ((u : Machine) → IsBack at_call (Memory l2.next) Halved u → Leaves pages most u After)
          → Leaves pages (1 + (15 + most)) (before_line memory l0.next line_00 returns lift) After
      round_then After most rest =
          line_then pages _ _ _ After
          (label pages memory l0.next l1.next line_00 returns lift 1 (there memory here.keeps l0.next l1.next _ l1.stands))
          (leaves_in_turn pages 15 most at_call (IsBack at_call (Memory l2.next) Halved) After halved rest)

    from_round : (left : ℕ) → left < 10 ^ 10 → (low high : ℤ) (memory : RegisterMap) → IsAtLabel (suc left) low high memory
        → (line_00 lift : Bool)
        → Leaves pages (18 * left + 18) (before_line memory l0.next line_00 returns lift) (HasBisected start (suc left) number low high)
    from_round zero small low high memory here line_00 lift =
        round_then zero low high memory here line_00 lift (HasBisected start 1 number low high) 2
        (λ u back.
        subst (λ (s : Machine). Leaves pages 2 s (HasBisected start 1 number low high))
        (sym (same_state zero low high memory here line_00 lift u back))
        (last_round zero small back.property.new_low back.property.new_high u.memory
        (now_here zero low high memory here line_00 lift u back)
        u.focal.lift refl 1 low high
        (more_halvings zero low high memory here line_00 lift u back 0 back.property.new_low back.property.new_high (refl, refl))))
    from_round (suc left) small low high memory here line_00 lift =
        let most : 1 + (15 + (1 + (1 + (18 * left + 18)))) ≡ 18 * suc left + 18 = omega arith in
        subst (λ (n : ℕ). Leaves pages n (before_line memory l0.next line_00 returns lift)
        (HasBisected start (suc (suc left)) number low high))
        most
        (round_then (suc left) low high memory here line_00 lift (HasBisected start (suc (suc left)) number low high)
        (1 + (1 + (18 * left + 18)))
        (λ u back.
        let now = now_here (suc left) low high memory here line_00 lift u back in
        subst (λ (s : Machine). Leaves pages (1 + (1 + (18 * left + 18))) s (HasBisected start (suc (suc left)) number low high))
        (sym (same_state (suc left) low high memory here line_00 lift u back))
        (goes_round (suc left) small back.property.new_low back.property.new_high u.memory now u.focal.lift
        (HasBisected start (suc (suc left)) number low high) (18 * left + 18) (omega arith)
        (leaves_as pages (18 * left + 18) _ (HasBisected start (suc left) number back.property.new_low back.property.new_high)
        (HasBisected start (suc (suc left)) number low high)
        (bisected_more (suc left) low high memory here line_00 lift u back (suc left))
        (from_round left (omega (arith, small)) back.property.new_low back.property.new_high
        (counted_memory (suc left) small back.property.new_low back.property.new_high u.memory now u.focal.lift)
        (next_here (suc left) small back.property.new_low back.property.new_high u.memory now u.focal.lift) false true)))))

    pub all_lines : (left : ℕ) → left < 10 ^ 10 → (low high : ℤ) → Contains first 3 (whole (suc left)) → IsBracket first number low high
        → unsigned_abs low ≤ greatest_bound → unsigned_abs high ≤ greatest_bound
        → Leaves pages (1 + (18 * left + 18)) start (HasBisected start (suc left) number low high)
    all_lines left small low high in_3 bracket low_size high_size =
        line_then pages _ start _ (HasBisected start (suc left) number low high)
        (global_label pages first at l0.next zero_line returns first_lift link key (codes "BISECT") l0.stands)
        (from_round left small low high first
        record { keeps = keeps_all first; bracket = bracket; in_3 = in_3; low_size = low_size; high_size = high_size } false first_lift)

pub bisection_returns : DecimalIsItsNearest → DecimalHasOneRegister → OneList → ReadIsDetermined → FractionHasOneNearest → BisectionReturns
bisection_returns itself registers lists one_reading nearest pages s count at link key distance end half half_link half_key half_distance
    half_end zero number low high is_memory sound place program ends half_program half_ends finds few enough some small in_3 bracket
    low_size high_size = absurd (omega (arith, some))
bisection_returns itself registers lists one_reading nearest pages s count at link key distance end half half_link half_key half_distance
    half_end (suc left) number low high is_memory sound place program ends half_program half_ends finds few enough some small in_3 bracket
    low_size high_size =
    let are = all_in_turn s.memory sound at (bisect_body link key distance) end program.has refl ends in
    let leading =
    leads_back s.memory sound one_reading at 1 program.has.listed (program.has.from.sound sound) program.begins (lines.LocalLabel 1)
    (lines.ShortGoTo 1 distance) refl refl refl end (lines.GlobalLabel link key (codes "BISECT")) []
    (lines.Named ExecuteName (codes "HALF") ∷ lines.WithOperand DecrementSkip (Direct 3) ∷ []) [] are refl refl refl refl refl in
    let most : 1 + (18 * left + 18) ≡ 18 * suc left + 1 = omega arith in
    subst (λ (u : Machine). Leaves pages (18 * suc left + 1) u (HasBisected u (suc left) number low high)) (own_place s at place)
    (subst
    (λ (n : ℕ). Leaves pages n (before_line s.memory at s.focal.at_line_00 s.focal.returns s.focal.lift)
    (HasBisected (before_line s.memory at s.focal.at_line_00 s.focal.returns s.focal.lift) (suc left) number low high))
    most
    (all_lines itself registers lists one_reading nearest pages count at s.focal.returns few end ends half half_link half_key half_distance
    half_end half_ends s.memory is_memory sound enough half_program finds link key distance program.has.listed number are.0 are.1.0
    are.1.1.0 are.1.1.1.0 are.1.1.1.1.0 are.1.1.1.1.1 leading s.focal.at_line_00 s.focal.lift left (omega (arith, small)) low high in_3
    bracket low_size high_size))
