-- What one line does: the state after it is written out.
use Rattle.std.proofs.Common.{◌≡◌, ℕ, ◌≤◌, Bool, true, false, List, [], ◌∷◌, Option, Some, Ok, Err, refl, sym, ap, subst, arith}
use Rattle.std.proofs.Common.{inl, length, drop}
use Rattle.std.specs.Prelude.{MatchBool, is_none, reverse, slice_index_or}
use Rattle.std.specs.Option.{option_map_or}
use Rattle.h41_codes.specs.declared.functions.Function.{Function}
use Rattle.h41_codes.specs.declared.functions.Function.TheVariants as functions
use Rattle.h41_codes.specs.declared.line.Line.{Line}
use Rattle.h41_codes.specs.declared.functions.Branch.TheVariants.{Execute, GoTo}
use Rattle.h41_codes.specs.declared.functions.NameFunction.TheVariants.{ExecuteName, GoToName}
use Rattle.h41_codes.specs.declared.line.Line.TheVariants.{BranchTo, End, FinalEnd, GlobalLabel, LocalLabel, Named, Plain, ShortGoTo}
use Rattle.h41_focal.specs.Destinations.{Arrives, GoesBack, Halts, Stepped, with_return}
use Rattle.h41_focal.specs.LineStep.{Applies, Left, StepsLine, TakesLine, Works}
use Rattle.h41_focal.specs.Outcomes.{Done, Stopped}
use Rattle.h41_focal.specs.declared.refusal.FocalRefusal.TheVariants.{NotInProfile}
use Rattle.h41_pages.specs.PageMap.{PageMap}
use Rattle.h41_positions.specs.FocalState.{Machine, at_halt, at_line, with_returns}
use Rattle.h41_positions.specs.declared.position.Position.{Position}
use Rattle.h41_positions.specs.declared.position.Position.TheVariants.{Memory}
use Rattle.h41_program.specs.ProgramLaws.{OneList}
use Rattle.h41_program.specs.Searches.{AnswersLocal, start_in}
use Rattle.h41_ram.specs.RegisterMap.{RegisterMap, zeros}
use Rattle.h41_rows.specs.FunctionRows.{function_row}
use Rattle.h41_rows.specs.Places.{are_numbers}
use Rattle.h41_rows.specs.RowEffects.{holds_in}
use Rattle.h41_rows.specs.Rows as rows
use Rattle.h41_rows.specs.Values.{Value}
use Rattle.h41_reasoning_lines.specs.LineRuns.{Continues, HasReturned, ReturnsTo}
use Rattle.h41_reasoning_lines.specs.ProgramLines.{FindsName, ends_program}
use Rattle.h41_reasoning_lines.specs.Stacks.{Stack, stack_of, with_stack}
use Rattle.h41_reasoning_lines.proofs.Listed.{IsLineAt, stands}

-- A state in which the line at a position is next.
abbrev pub before_line : RegisterMap → ℕ → Bool → List Position → Bool → Machine
before_line memory at zero returns lift =
    record { memory = memory; focal = record { position = Memory at; at_line_00 = zero; returns = returns; lift = lift } }

-- The same, after a line was executed.
abbrev pub after_line : RegisterMap → ℕ → List Position → Bool → Machine
after_line memory at returns lift = before_line memory at false returns lift

-- Each state at a position in memory is of this form.
pub whole_list : (status : List (List ℕ)) → 5 ≤ length status
    → slice_index_or status 0 zeros ∷ slice_index_or status 1 zeros ∷ slice_index_or status 2 zeros ∷ slice_index_or status 3 zeros
    ∷ slice_index_or status 4 zeros ∷ drop 5 status ≡ status
whole_list [] enough = absurd (omega (arith, enough))
whole_list (a ∷ []) enough = absurd (omega (arith, enough))
whole_list (a ∷ b ∷ []) enough = absurd (omega (arith, enough))
whole_list (a ∷ b ∷ c ∷ []) enough = absurd (omega (arith, enough))
whole_list (a ∷ b ∷ c ∷ d ∷ []) enough = absurd (omega (arith, enough))
whole_list (a ∷ b ∷ c ∷ d ∷ e ∷ rest) enough = refl

pub own_stack : (memory : RegisterMap) → length memory.status ≡ 16 → with_stack (stack_of memory) memory ≡ memory
own_stack memory size =
    ap (λ (status : List (List ℕ)). let with : RegisterMap = record memory { status = status } in with)
    (whole_list memory.status (omega (arith, size)))

pub own_place : (s : Machine) (at : ℕ) → s.focal.position ≡ Memory at
    → before_line s.memory at s.focal.at_line_00 s.focal.returns s.focal.lift ≡ s
own_place s at place =
    ap (λ (position : Position). let with : Machine = record s { focal = record s.focal { position = position } } in with) (sym place)

-- What is true of each state of this form is true of each state at the position.
pub by_state : (at : ℕ) (Property : Machine → Type 0)
    → ((stack : Stack) (memory : RegisterMap) (zero : Bool) (returns : List Position) (lift : Bool)
    → Property (before_line (with_stack stack memory) at zero returns lift))
    → (s : Machine) → length s.memory.status ≡ 16 → s.focal.position ≡ Memory at → Property s
by_state at Property each s size place =
    subst Property (own_place s at place)
    (subst (λ (memory : RegisterMap). Property (before_line memory at s.focal.at_line_00 s.focal.returns s.focal.lift))
    (own_stack s.memory size) (each (stack_of s.memory) s.memory s.focal.at_line_00 s.focal.returns s.focal.lift))

-- A test is true.
pub holding_true : (holds : Bool) (Then Else : Type 0) → holds ≡ true → Then → MatchBool holds Then Else
holding_true true Then Else is so = so
holding_true false Then Else is so = absurd (cc)

module _ (pages : PageMap) (memory : RegisterMap) (at next : ℕ) (zero : Bool) (returns : List Position) where
  -- A line that has this effect is executed.
  module _ (lift : Bool) where
    pub taken : (line : Line) (left : Left) → IsLineAt memory at line next
        → TakesLine pages (Stepped (Memory next)) line (before_line memory at zero returns lift) (Ok left)
        → StepsLine pages (before_line memory at zero returns lift) (Ok left)
    taken line left is takes = (Ok (line, Memory next), stands pages memory at line next is, takes)

    -- A function without an operand, by its row.
    pub plain : (function : Function) (row : rows.LineRow) (left : Left) → function_row function ≡ Some row
        → IsLineAt memory at (Plain function) next
        → Applies pages (Stepped (Memory next)) row 0 (before_line memory at zero returns lift) (Ok left)
        → StepsLine pages (before_line memory at zero returns lift) (Ok left)
    plain function row left has is applies =
        taken (Plain function) left is
        (subst
        (λ (found : Option rows.LineRow). MatchBool (is_none found) (Ok left ≡ Err NotInProfile)
        (Applies pages (Stepped (Memory next)) (option_map_or (λ row. row) found rows.lifting_row) 0
        (before_line memory at zero returns lift) (Ok left)))
        (sym has) applies)

    -- Labels change nothing.
    pub label : (n : ℕ) → IsLineAt memory at (LocalLabel n) next
        → Continues pages (before_line memory at zero returns lift) (after_line memory next returns lift)
    label n is = taken (LocalLabel n) _ is (Ok zeros, refl, (Arrives (Memory next) returns, refl, refl))

    pub global_label : (link key : ℕ) (name : List ℕ) → IsLineAt memory at (GlobalLabel link key name) next
        → Continues pages (before_line memory at zero returns lift) (after_line memory next returns lift)
    global_label link key name is = taken (GlobalLabel link key name) _ is (Ok zeros, refl, (Arrives (Memory next) returns, refl, refl))

    -- GTO 00 to GTO 14.
    pub go_to : (n distance target : ℕ) → IsLineAt memory at (ShortGoTo n distance) next → AnswersLocal memory next n (Some target)
        → Continues pages (before_line memory at zero returns lift) (after_line memory target returns lift)
    go_to n distance target is found =
        taken (ShortGoTo n distance) _ is
        (Ok zeros, refl, (Arrives (Memory target) returns, (Some (Memory target), (Some target, found, refl), refl), refl))

    -- GTO of three bytes.
    pub go_to_far : (n distance target : ℕ) (backwards : Bool) → IsLineAt memory at (BranchTo GoTo distance backwards n) next
        → AnswersLocal memory next n (Some target)
        → Continues pages (before_line memory at zero returns lift) (after_line memory target returns lift)
    go_to_far n distance target backwards is found =
        taken (BranchTo GoTo distance backwards n) _ is
        (Ok zeros, refl, (Arrives (Memory target) returns, (Some (Memory target), (Some target, found, refl), refl), refl))

    -- XEQ of a local label: the next line becomes the newest return address.
    pub executes : (n distance target : ℕ) (backwards : Bool) → IsLineAt memory at (BranchTo Execute distance backwards n) next
        → AnswersLocal memory next n (Some target)
        → Continues pages (before_line memory at zero returns lift)
        (after_line memory target (with_return returns (Memory next)) lift)
    executes n distance target backwards is found =
        taken (BranchTo Execute distance backwards n) _ is (
          Ok zeros,
          refl,
          (
            Arrives (Memory target) (with_return returns (Memory next)),
            (Some (Memory target), (Some target, found, refl), refl),
            refl,
          ),
        )

    -- XEQ with a name.
    pub executes_named : (name : List ℕ) (target : ℕ) → IsLineAt memory at (Named ExecuteName name) next → FindsName memory name target
        → Continues pages (before_line memory at zero returns lift)
        (after_line memory target (with_return returns (Memory next)) lift)
    executes_named name target is found =
        taken (Named ExecuteName name) _ is
        (Ok zeros, refl, (Arrives (Memory target) (with_return returns (Memory next)), (Some target, found, refl), refl))

    -- GTO with a name.
    pub goes_named : (name : List ℕ) (target : ℕ) → IsLineAt memory at (Named GoToName name) next → FindsName memory name target
        → Continues pages (before_line memory at zero returns lift) (after_line memory target returns lift)
    goes_named name target is found =
        taken (Named GoToName name) _ is (Ok zeros, refl, (Arrives (Memory target) returns, (Some target, found, refl), refl))

    -- A function that only turns stack lift on, such as BEEP.
    pub lifts : (function : Function) → function_row function ≡ Some rows.lifting_row → IsLineAt memory at (Plain function) next
        → Continues pages (before_line memory at zero returns lift) (after_line memory next returns true)
    lifts function has is = plain function rows.lifting_row _ has is (Ok zeros, refl, (Arrives (Memory next) returns, refl, refl))

    -- A test, given that the registers that it compares contain numbers where it needs them.
    module _ (function : Function) (condition : rows.Condition) (has : function_row function ≡ Some (rows.test condition))
        (is : IsLineAt memory at (Plain function) next)
        (numbers : are_numbers memory 0 (rows.places_in_condition condition) ≡ true) where
      works : Works memory 0 (rows.test condition) (Ok zeros)
      works = holding_true (are_numbers memory 0 (rows.places_in_condition condition)) _ _ numbers refl

      -- The next line follows if the condition is true.
      pub test_true : holds_in memory 0 condition ≡ true
          → Continues pages (before_line memory at zero returns lift) (after_line memory next returns true)
      test_true holds =
          plain function (rows.test condition) _ has is
          (Ok zeros, works, (Arrives (Memory next) returns, rw holds refl, refl))

      -- Otherwise the next line is skipped.
      pub test_false : (skipped : Line) (after : ℕ) → IsLineAt memory next skipped after → holds_in memory 0 condition ≡ false
          → Continues pages (before_line memory at zero returns lift) (after_line memory after returns true)
      test_false skipped after other fails =
          plain function (rows.test condition) _ has is (
            Ok zeros,
            works,
            (Arrives (Memory after) returns, rw fails (inl (Memory after, (Ok after, other.onward, refl), refl)), refl),
          )

-- Lines that work on the stack.
module _ (pages : PageMap) (stack : Stack) (memory : RegisterMap) (at next : ℕ) (zero : Bool) (returns : List Position) (lift : Bool) where
  abbrev here : Machine
  here = before_line (with_stack stack memory) at zero returns lift

  abbrev gone : Stack → Machine
  gone other = after_line (with_stack other memory) next returns true

  pub exchanged : IsLineAt (with_stack stack memory) at (Plain functions.ExchangeXY) next
      → Continues pages here (gone (record stack { x = stack.y; y = stack.x }))
  exchanged is =
      plain pages (with_stack stack memory) at next zero returns lift functions.ExchangeXY _ _ refl is
      (Ok zeros, refl, (Arrives (Memory next) returns, refl, refl))

  pub rolled_down : IsLineAt (with_stack stack memory) at (Plain functions.RollDown) next
      → Continues pages here (gone (record stack { x = stack.y; y = stack.z; z = stack.t; t = stack.x }))
  rolled_down is =
      plain pages (with_stack stack memory) at next zero returns lift functions.RollDown _ _ refl is
      (Ok zeros, refl, (Arrives (Memory next) returns, refl, refl))

  -- ENTER turns stack lift off.
  pub entered : IsLineAt (with_stack stack memory) at (Plain functions.Enter) next
      → Continues pages here
      (after_line (with_stack (record stack { y = stack.x; z = stack.y; t = stack.z }) memory) next returns false)
  entered is =
      plain pages (with_stack stack memory) at next zero returns lift functions.Enter _ _ refl is
      (Ok zeros, refl, (Arrives (Memory next) returns, refl, refl))

  -- A function of Y and X leaves its result in X, X in LAST X, and the stack drops.
  pub of_two : (function : Function) (value : Value) (result : List ℕ) → function_row function ≡ Some (rows.of_y_and_x value)
      → IsLineAt (with_stack stack memory) at (Plain function) next
      → Works (with_stack stack memory) 0 (rows.of_y_and_x value) (Ok result)
      → Continues pages here (gone (record { t = stack.t; z = stack.t; y = stack.z; x = result; last = stack.x }))
  of_two function value result has is works =
      plain pages (with_stack stack memory) at next zero returns lift function (rows.of_y_and_x value) _ has is
      (Ok result, works, (Arrives (Memory next) returns, refl, refl))

  -- A function of X leaves its result in X, and X in LAST X.
  pub of_one : (function : Function) (value : Value) (result : List ℕ) → function_row function ≡ Some (rows.of_x value)
      → IsLineAt (with_stack stack memory) at (Plain function) next
      → Works (with_stack stack memory) 0 (rows.of_x value) (Ok result)
      → Continues pages here (gone (record stack { x = result; last = stack.x }))
  of_one function value result has is works =
      plain pages (with_stack stack memory) at next zero returns lift function (rows.of_x value) _ has is
      (Ok result, works, (Arrives (Memory next) returns, refl, refl))

-- LASTX, with stack lift on.
pub last_recalled : (pages : PageMap) (stack : Stack) (memory : RegisterMap) (at next : ℕ) (zero : Bool) (returns : List Position)
    → IsLineAt (with_stack stack memory) at (Plain functions.LastX) next
    → Continues pages (before_line (with_stack stack memory) at zero returns true)
    (after_line (with_stack (record { t = stack.z; z = stack.y; y = stack.x; x = stack.last; last = stack.last }) memory)
    next returns true)
last_recalled pages stack memory at next zero returns is =
    plain pages (with_stack stack memory) at next zero returns true functions.LastX _ _ refl is
    (Ok zeros, refl, (Arrives (Memory next) returns, refl, refl))

-- A program returns: it continues at the newest return address, or stops if there is none.
pub record Back (pages : PageMap) (s : Machine) : Type 0 where
  pub left : Left
  pub step : StepsLine pages s (Ok left)
  pub returned : HasReturned s left
  pub memory : left.machine.memory ≡ s.memory
  pub lift : left.machine.focal.lift ≡ s.focal.lift

abbrev returning : rows.LineRow
returning = record rows.silent_row { goes = rows.Returns }

module _ (pages : PageMap) (lists : OneList) (memory : RegisterMap) (at next : ℕ) (zero : Bool) (returns : List Position)
    (lift : Bool) where
  abbrev there : Machine
  there = before_line memory at zero returns lift

  -- By the row of a line that returns, given its return addresses, the newest first.
  back_by : ((left : Left) → Applies pages (Stepped (Memory next)) returning 0 there (Ok left) → StepsLine pages there (Ok left))
      → (newest : List Position) → reverse returns ≡ newest → Back pages there
  back_by steps [] are =
      let all = lists memory 0 in
      let start : Position = Memory (start_in at all.lines) in
      record {
        left = record { machine = at_halt start there; answer = Stopped };
        step =
            steps _ (
              Ok zeros,
              refl,
              (
                Halts start,
                subst (λ (list : List Position). GoesBack pages memory (Memory at) list (Halts start)) (sym are)
                    (start, (start_in at all.lines, (all.lines, all.from, refl), refl), refl),
                refl,
              ),
            );
        returned =
            subst (λ (list : List Position). ReturnsTo list (record { machine = at_halt start there; answer = Stopped })) (sym are)
            (refl, refl, refl);
        memory = refl;
        lift = refl;
      }
  back_by steps (latest ∷ others) are =
      let left : Left = record { machine = at_line latest (with_returns (reverse others) there); answer = Done } in
      record {
        left = left;
        step =
            steps left (
              Ok zeros,
              refl,
              (
                Arrives latest (reverse others),
                subst (λ (list : List Position). GoesBack pages memory (Memory at) list (Arrives latest (reverse others))) (sym are) refl,
                refl,
              ),
            );
        returned = subst (λ (list : List Position). ReturnsTo list left) (sym are) (refl, refl, refl, refl);
        memory = refl;
        lift = refl;
      }

  pub returned : IsLineAt memory at (Plain functions.Return) next → Back pages there
  returned is =
      back_by (λ left applies. plain pages memory at next zero returns lift functions.Return returning left refl is applies)
      (reverse returns) refl

  -- END and .END. return too.
  pub ended : (line : Line) → ends_program line ≡ true → IsLineAt memory at line next → Back pages there
  ended (End link marks) ends is =
      back_by (λ left applies. taken pages memory at next zero returns lift (End link marks) left is applies) (reverse returns) refl
  ended (FinalEnd link marks) ends is =
      back_by (λ left applies. taken pages memory at next zero returns lift (FinalEnd link marks) left is applies) (reverse returns) refl
  ended line ends is = absurd (cc)
