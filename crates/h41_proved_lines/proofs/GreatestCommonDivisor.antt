use Rattle.std.proofs.Common.{◌≡◌, ℕ, ◌+◌, ◌^◌, ◌<◌, Bool, true, false, List, [], ◌∷◌, Some, inl, inr, refl, sym, ap, ◌∙◌, subst, arith}
use Rattle.std.specs.Prelude.{codes, ℤ}
use Rattle.std.proofs.lemmas.Bool.{cases_lt}
use Rattle.h41_codes.specs.declared.functions.Function.TheVariants as functions
use Rattle.h41_codes.specs.declared.line.Line.{Line}
use Rattle.h41_codes.specs.declared.line.Line.TheVariants.{GlobalLabel, LocalLabel, Plain, ShortGoTo}
use Rattle.h41_decimal.specs.Holding.{Number, holding_of}
use Rattle.h41_decimal.specs.Laws.{DecimalIsItsNearest, RegisterIsDetermined, UnitsAreInjective}
use Rattle.h41_decimal.specs.Units.{units}
use Rattle.h41_decimal.specs.declared.ten.Ten.{Ten}
use Rattle.h41_laws_words.specs.DecimalAnswers.{DecimalHasOneRegister}
use Rattle.h41_focal.specs.LineStep.{Left}
use Rattle.h41_pages.specs.PageMap.{PageMap}
use Rattle.h41_positions.specs.FocalState.{Machine}
use Rattle.h41_positions.specs.declared.position.Position.{Position}
use Rattle.h41_program.specs.ProgramLaws.{OneList, ReadIsDetermined}
use Rattle.h41_program.specs.Searches.{AnswersLocal}
use Rattle.h41_program.specs.declared.listed_line.ListedLine.{ListedLine}
use Rattle.h41_program.proofs.Depends as depends
use Rattle.h41_ram.specs.RegisterMap.{RegisterMap, is_sound}
use Rattle.h41_rows.specs.Places as places
use Rattle.h41_rows.specs.Rows as rows
use Rattle.h41_rows.specs.Values.{IsRegisterOf, OfTwo}
use Rattle.h41_rows.specs.declared.values.ValueOfTwo.TheVariants as twos
use Rattle.h41_reasoning_lines.specs.LineRounds.{AfterRound}
use Rattle.h41_reasoning_lines.specs.LineRuns.{Continues, Leaves, WithinSteps}
use Rattle.h41_reasoning_lines.specs.ProgramLines.{IsProgram, ends_program}
use Rattle.h41_reasoning_lines.specs.Stacks.{Stack, stack_of, with_stack}
use Rattle.h41_reasoning_lines.proofs.Computing.{reduced}
use Rattle.h41_reasoning_lines.proofs.Listed.{IsLineAt, IsListed}
use Rattle.h41_reasoning_lines.proofs.Programs.{IsLast, all_in_turn, leads_back}
use Rattle.h41_reasoning_lines.proofs.Rounds.{at_end, by_last, by_line, leaves_in_turn, line_then, loops_end, more_suffice}
use Rattle.h41_reasoning_lines.proofs.Stacks.{same_program, still}
use Rattle.h41_reasoning_lines.proofs.Stepping.{after_line, before_line, by_state, ended, exchanged, global_label, go_to, label}
use Rattle.h41_reasoning_lines.proofs.Stepping.{last_recalled, of_two, test_false, test_true}
use Rattle.h41_reasoning_lines.proofs.Wholes.{modulo_whole, tells_some, tells_zero, whole, whole_ten}
use Rattle.h41_proved_lines.specs.GreatestCommonDivisor.{GreatestCommonDivisorReturns, HasGreatestCommonDivisor, gcd_body, gcd_lines}
use Rattle.h41_proved_lines.proofs.AbsoluteDifference.{register_of}
use Rattle.h41_proved_lines.proofs.Euclid.{Falls, HasRemainder, SameDivisors, fewer_rounds, greatest, remainder, same_divisors}

module _ (itself : DecimalIsItsNearest) (injective : UnitsAreInjective) (determined : RegisterIsDetermined)
    (registers : DecimalHasOneRegister) (lists : OneList) (pages : PageMap) (stack : Stack)
    (memory : RegisterMap) (at : ℕ) (returns : List Position) (a b link key distance : ℕ) (end : Line)
    (ends : ends_program end ≡ true) (sound : is_sound (with_stack stack memory) ≡ true) (listed : List ListedLine) where
  abbrev first_memory : RegisterMap
  first_memory = with_stack stack memory

  module _ (l0 : IsListed first_memory at listed (GlobalLabel link key (codes "GCD")))
      (l1 : IsListed first_memory l0.next l0.rest (LocalLabel 1))
      (l2 : IsListed first_memory l1.next l1.rest (Plain functions.Modulo))
      (l3 : IsListed first_memory l2.next l2.rest (Plain functions.LastX))
      (l4 : IsListed first_memory l3.next l3.rest (Plain functions.ExchangeXY))
      (l5 : IsListed first_memory l4.next l4.rest (Plain functions.TestXNotZero))
      (l6 : IsListed first_memory l5.next l5.rest (ShortGoTo 1 distance))
      (l7 : IsListed first_memory l6.next l6.rest (Plain functions.ExchangeXY))
      (l8 : IsLast first_memory end l7.next l7.rest) where
    module _ (leading : AnswersLocal first_memory l6.next 1 (Some l0.next)) where
      -- At LBL 01 and after the last round, the stack has two whole numbers.
      pub record HasNumbers (st : Stack) (y x : ℕ) : Type 0 where
        pub small_y : y < 10 ^ 10
        pub small_x : x < 10 ^ 10
        pub in_y : holding_of st.y ≡ Number (whole y)
        pub in_x : holding_of st.x ≡ Number (whole x)
        pub t : st.t ≡ stack.t
        pub z : st.z ≡ stack.z
        pub same : SameDivisors a b y x

      record IsAtLabel (left : ℕ) (s : Machine) : Type 0 where
        st : Stack
        y : ℕ
        x : ℕ
        zero_line : Bool
        lift : Bool
        is : s ≡ before_line (with_stack st memory) l0.next zero_line returns lift
        numbers : HasNumbers st y x
        falls : Falls left y x

      record IsAtEnd (s : Machine) : Type 0 where
        st : Stack
        divisor : ℕ
        is : s ≡ after_line (with_stack st memory) l6.next returns true
        numbers : HasNumbers st divisor 0

      -- A round, from a stack.
      module _ (left : ℕ) (st : Stack) (y x : ℕ) (zero_line lift : Bool) (numbers : HasNumbers st y x) (falls : Falls left y x) where
        parts : HasRemainder y x
        parts = remainder y x

        small_rest : parts.rest < 10 ^ 10
        small_rest = omega (arith, parts.small, numbers.small_y)

        rest_ten : (ten : Ten) × (units ten ≡ whole parts.rest)
        rest_ten = whole_ten parts.rest small_rest

        result : (register : List ℕ) × IsRegisterOf (units rest_ten.0) register
        result = register_of registers rest_ten.0

        rest_is : IsRegisterOf (whole parts.rest) result.0
        rest_is = subst (λ (n : ℤ). IsRegisterOf n result.0) rest_ten.1 result.1

        abbrev reduced_stack : Stack
        reduced_stack = record { t = st.t; z = st.t; y = st.z; x = result.0; last = st.x }

        abbrev recalled_stack : Stack
        recalled_stack = record { t = st.t; z = st.z; y = result.0; x = st.x; last = st.x }

        abbrev round_stack : Stack
        round_stack = record { t = st.t; z = st.z; y = st.x; x = result.0; last = st.x }

        marked : Continues pages (before_line (with_stack st memory) l0.next zero_line returns lift)
            (after_line (with_stack st memory) l1.next returns lift)
        marked =
            label pages (with_stack st memory) l0.next l1.next zero_line returns lift 1
            (still stack st memory sound l0.next l1.next _ l1.stands)

        divided : Continues pages (after_line (with_stack st memory) l1.next returns lift)
            (after_line (with_stack reduced_stack memory) l2.next returns true)
        divided =
            of_two pages st memory l1.next l2.next false returns lift functions.Modulo (OfTwo twos.Remainder places.Y places.X)
            result.0 refl
            (still stack st memory sound l1.next l2.next _ l2.stands)
            (reduced st memory (whole y) (whole x) numbers.in_y numbers.in_x rest_ten.0 result.0 result.1
            (whole_ten y numbers.small_y).0 (whole_ten x numbers.small_x).0 (whole_ten y numbers.small_y).1 (whole_ten x numbers.small_x).1
            (modulo_whole itself injective y x parts.quotient parts.rest parts.is (whole_ten y numbers.small_y).0
            (whole_ten x numbers.small_x).0 rest_ten.0 (whole_ten y numbers.small_y).1 (whole_ten x numbers.small_x).1 rest_ten.1))

        recalled : Continues pages (after_line (with_stack reduced_stack memory) l2.next returns true)
            (after_line (with_stack recalled_stack memory) l3.next returns true)
        recalled =
            last_recalled pages reduced_stack memory l2.next l3.next false returns
            (still stack reduced_stack memory sound l2.next l3.next _ l3.stands)

        swapped : Continues pages (after_line (with_stack recalled_stack memory) l3.next returns true)
            (after_line (with_stack round_stack memory) l4.next returns true)
        swapped =
            exchanged pages recalled_stack memory l3.next l4.next false returns true
            (still stack recalled_stack memory sound l3.next l4.next _ l4.stands)

        abbrev here : RegisterMap
        here = with_stack round_stack memory

        there : IsLineAt here l4.next (Plain functions.TestXNotZero) l5.next
        there = still stack round_stack memory sound l4.next l5.next _ l5.stands

        jump : IsLineAt here l5.next (ShortGoTo 1 distance) l6.next
        jump = still stack round_stack memory sound l5.next l6.next _ l6.stands

        up_to_test : (After : Machine → Type 0) (most : ℕ) → WithinSteps pages most (after_line here l4.next returns true) After
            → WithinSteps pages (1 + (1 + (1 + (1 + most)))) (before_line (with_stack st memory) l0.next zero_line returns lift) After
        up_to_test After most rest =
            by_line pages _ _ _ After marked
            (by_line pages _ _ _ After divided (by_line pages _ _ _ After recalled (by_line pages _ _ _ After swapped rest)))

        next_numbers : HasNumbers round_stack x parts.rest
        next_numbers = record {
          small_y = numbers.small_x;
          small_x = small_rest;
          in_y = numbers.in_x;
          in_x = rest_is.holds;
          t = numbers.t;
          z = numbers.z;
          same = same_divisors a b parts.quotient y x parts.rest parts.is.parts numbers.same;
        }

        goes_on : 0 < parts.rest
            → WithinSteps pages 6 (before_line (with_stack st memory) l0.next zero_line returns lift) (AfterRound IsAtLabel IsAtEnd left)
        goes_on some =
            let fewer = fewer_rounds left parts.quotient y x parts.rest parts.is numbers.small_x small_rest some falls in
            let again : IsAtLabel fewer.fewer (after_line here l0.next returns true) =
            record {
              st = round_stack;
              y = x;
              x = parts.rest;
              zero_line = false;
              lift = true;
              is = refl;
              numbers = next_numbers;
              falls = fewer.falls;
            } in
            up_to_test (AfterRound IsAtLabel IsAtEnd left) 2
            (by_line pages 1 _ _ (AfterRound IsAtLabel IsAtEnd left)
            (test_true pages here l4.next l5.next false returns true functions.TestXNotZero (rows.Differ (rows.In places.X) rows.Nought)
            refl there refl (tells_some parts.rest result.0 some rest_is.holds))
            (by_line pages 0 _ _ (AfterRound IsAtLabel IsAtEnd left)
            (go_to pages here l5.next l6.next false returns true 1 distance l0.next jump
            (depends.local first_memory here l6.next 1 (Some l0.next) (same_program stack round_stack memory sound) leading))
            (at_end pages _ (AfterRound IsAtLabel IsAtEnd left) (inr (fewer.fewer, fewer.less, again)))))

        stops : parts.rest ≡ 0
            → WithinSteps pages 6 (before_line (with_stack st memory) l0.next zero_line returns lift) (AfterRound IsAtLabel IsAtEnd left)
        stops none =
            let done : IsAtEnd (after_line here l6.next returns true) =
            record {
              st = round_stack;
              divisor = x;
              is = refl;
              numbers = subst (λ (n : ℕ). HasNumbers round_stack x n) none next_numbers;
            } in
            more_suffice pages 5 6 _ (AfterRound IsAtLabel IsAtEnd left) (omega arith)
            (up_to_test (AfterRound IsAtLabel IsAtEnd left) 1
            (by_line pages 0 _ _ (AfterRound IsAtLabel IsAtEnd left)
            (test_false pages here l4.next l5.next false returns true functions.TestXNotZero (rows.Differ (rows.In places.X) rows.Nought)
            refl there refl _ l6.next jump
            (tells_zero determined result.0 (subst (λ (n : ℕ). IsRegisterOf (whole n) result.0) none rest_is)))
            (at_end pages _ (AfterRound IsAtLabel IsAtEnd left) (inl done))))

        round_from : WithinSteps pages 6 (before_line (with_stack st memory) l0.next zero_line returns lift)
            (AfterRound IsAtLabel IsAtEnd left)
        round_from = elim (cases_lt 0 parts.rest) [ inl some ↦ goes_on some | inr none ↦ stops (omega (arith, none)) ]

      round : (left : ℕ) (s : Machine) → IsAtLabel left s → WithinSteps pages 6 s (AfterRound IsAtLabel IsAtEnd left)
      round left s here =
          subst (λ (u : Machine). WithinSteps pages 6 u (AfterRound IsAtLabel IsAtEnd left)) (sym here.is)
          (round_from left here.st here.y here.x here.zero_line here.lift here.numbers here.falls)

      -- The last two lines, of a program that began with the first one.
      module _ (zero_line lift : Bool) where
        abbrev start : Machine
        start = before_line first_memory at zero_line returns lift

        abbrev After : Left → Type 0
        After = HasGreatestCommonDivisor start a b

        ending : (st : Stack) (divisor : ℕ) → HasNumbers st divisor 0
            → Leaves pages 2 (after_line (with_stack st memory) l6.next returns true) After
        ending st divisor numbers =
            let last_stack : Stack = record st { x = st.y; y = st.x } in
            let back =
            ended pages lists (with_stack last_stack memory) l7.next l8.next false returns true end ends
            (still stack last_stack memory sound l7.next l8.next _ l8.stands) in
            line_then pages 1 _ _ After
            (exchanged pages st memory l6.next l7.next false returns true
            (still stack st memory sound l6.next l7.next _ l7.stands))
            (by_last pages _ back.left After back.step
            record {
              returned = back.returned;
              divisor = divisor;
              is_greatest = greatest a b divisor numbers.same;
              x = st.y;
              y = st.x;
              last = st.last;
              is_divisor = numbers.in_y;
              is_zero = numbers.in_x;
              only =
                  back.memory
                  ∙ ap (λ (t : List ℕ). with_stack (record { t = t; z = st.z; y = st.x; x = st.y; last = st.last }) memory) numbers.t
                  ∙ ap (λ (z : List ℕ). with_stack (record { t = stack.t; z = z; y = st.x; x = st.y; last = st.last }) memory) numbers.z;
            })

        pub all_lines : a < 10 ^ 10 → b < 10 ^ 10 → holding_of stack.y ≡ Number (whole a) → holding_of stack.x ≡ Number (whole b)
            → Leaves pages 423 start After
        all_lines small_a small_b in_y in_x =
            let begun : IsAtLabel 69 (after_line first_memory l0.next returns lift) =
            record {
              st = stack;
              y = a;
              x = b;
              zero_line = false;
              lift = lift;
              is = refl;
              numbers = record {
                small_y = small_a;
                small_x = small_b;
                in_y = in_y;
                in_x = in_x;
                t = refl;
                z = refl;
                same = record { there = λ d of_a of_b. (of_a, of_b); back = λ d of_a of_b. (of_a, of_b) };
              };
              falls = inr (inr (omega arith));
            } in
            line_then pages 422 start _ After
            (global_label pages first_memory at l0.next zero_line returns lift link key (codes "GCD") l0.stands)
            (leaves_in_turn pages 420 2 _ IsAtEnd After
            (loops_end pages IsAtLabel IsAtEnd 6 round 69 (after_line first_memory l0.next returns lift) begun)
            (λ t done. subst (λ (u : Machine). Leaves pages 2 u After) (sym done.is) (ending done.st done.divisor done.numbers)))

pub greatest_common_divisor : DecimalIsItsNearest → UnitsAreInjective → RegisterIsDetermined → DecimalHasOneRegister → OneList
    → ReadIsDetermined → GreatestCommonDivisorReturns
greatest_common_divisor itself injective determined registers lists one_reading pages s count at a b link key distance end is_memory sound
    place program ends small_a small_b in_y in_x =
    by_state at
    (λ (u : Machine). is_sound u.memory ≡ true → IsProgram u.memory at (gcd_lines link key distance end)
    → holding_of (stack_of u.memory).y ≡ Number (whole a) → holding_of (stack_of u.memory).x ≡ Number (whole b)
    → Leaves pages 423 u (HasGreatestCommonDivisor u a b))
    (λ stack memory zero returns lift own_sound own_program own_y own_x.
    let own : RegisterMap = with_stack stack memory in
    let are = all_in_turn own own_sound at (gcd_body link key distance) end own_program.has refl ends in
    let leading =
    leads_back own own_sound one_reading at 1 own_program.has.listed (own_program.has.from.sound own_sound) own_program.begins
    (LocalLabel 1) (ShortGoTo 1 distance) refl refl refl end (GlobalLabel link key (codes "GCD")) []
    (Plain functions.Modulo ∷ Plain functions.LastX ∷ Plain functions.ExchangeXY ∷ Plain functions.TestXNotZero ∷ [])
    (Plain functions.ExchangeXY ∷ []) are refl refl refl refl refl in
    all_lines itself injective determined registers lists pages stack memory at returns a b link key distance end ends own_sound
    own_program.has.listed are.0 are.1.0 are.1.1.0 are.1.1.1.0 are.1.1.1.1.0 are.1.1.1.1.1.0 are.1.1.1.1.1.1.0 are.1.1.1.1.1.1.1.0
    are.1.1.1.1.1.1.1.1 leading zero lift small_a small_b own_y own_x)
    s is_memory.status place sound program in_y in_x
