use Rattle.std.proofs.Common.{◌≡◌, ℕ, Bool, true, false, List, Ok, refl, ap, ◌∙◌, subst}
use Rattle.std.specs.Prelude.{ℤ, pos, ◌-ℤ◌, unsigned_abs}
use Rattle.h41_codes.specs.declared.functions.Function.TheVariants as functions
use Rattle.h41_decimal.specs.Holding.{Number, holding_of}
use Rattle.h41_decimal.specs.Laws.{DecimalIsItsNearest}
use Rattle.h41_decimal.specs.NearestDecimal.{Nearest}
use Rattle.h41_decimal.specs.Units.{size, units}
use Rattle.h41_decimal.specs.declared.ten.Ten.{Ten}
use Rattle.h41_laws_words.specs.DecimalAnswers.{DecimalHasOneRegister}
use Rattle.h41_pages.specs.PageMap.{PageMap}
use Rattle.h41_positions.specs.FocalState.{Machine}
use Rattle.h41_positions.specs.declared.position.Position.{Position}
use Rattle.h41_program.specs.ProgramLaws.{OneList}
use Rattle.h41_program.specs.declared.listed_line.ListedLine.{ListedLine}
use Rattle.h41_ram.specs.RegisterMap.{RegisterMap, is_sound}
use Rattle.h41_rows.specs.Places.{X, Y}
use Rattle.h41_rows.specs.Values.{IsRegisterOf, OfOne, OfTwo}
use Rattle.h41_rows.specs.declared.values.ValueOfOne.TheVariants as ones
use Rattle.h41_rows.specs.declared.values.ValueOfTwo.TheVariants as twos
use Rattle.h41_reasoning_lines.specs.LineRuns.{Leaves}
use Rattle.h41_reasoning_lines.specs.ProgramLines.{HasProgram}
use Rattle.h41_reasoning_lines.specs.Stacks.{Stack, stack_of, with_stack}
use Rattle.h41_reasoning_lines.proofs.Computing.{made_absolute, subtracted}
use Rattle.h41_reasoning_lines.proofs.Listed.{AreListed, also, in_turn}
use Rattle.h41_reasoning_lines.proofs.Rounds.{by_last, line_then}
use Rattle.h41_reasoning_lines.proofs.Stacks.{same_program}
use Rattle.h41_reasoning_lines.proofs.Stepping.{before_line, by_state, of_one, of_two, returned}
use Rattle.h41_reasoning_lines.proofs.SignedDecimals.{unsigned}
use Rattle.h41_proved_lines.specs.AbsoluteDifference.{AbsoluteDifferenceReturns, HasAbsoluteDifference, absolute_difference_lines}

-- The register of a decimal.
pub register_of : DecimalHasOneRegister → (number : Ten) → (register : List ℕ) × IsRegisterOf (units number) register
register_of registers number =
    let found = registers number in
    (found.answer, record { valid = found.right.valid; holds = found.right.holds })

module _ (itself : DecimalIsItsNearest) (registers : DecimalHasOneRegister) (lists : OneList) (pages : PageMap) (stack : Stack)
    (memory : RegisterMap) (at : ℕ) (zero : Bool) (returns : List Position) (lift : Bool) (y x : ℤ) (difference : Ten)
    (sound : is_sound (with_stack stack memory) ≡ true) (in_y : holding_of stack.y ≡ Number y) (in_x : holding_of stack.x ≡ Number x)
    (nearest : Nearest (y -ℤ x) 1 (Ok difference)) where
  abbrev start : Machine
  start = before_line (with_stack stack memory) at zero returns lift

  -- The stack after each line.
  abbrev subtracted_stack : List ℕ → Stack
  subtracted_stack result = record { t = stack.t; z = stack.t; y = stack.z; x = result; last = stack.x }

  abbrev absolute_stack : List ℕ → List ℕ → Stack
  absolute_stack result size = record (subtracted_stack result) { x = size; last = result }

  size_nearest : Nearest (pos (unsigned_abs (units difference))) 1 (Ok (unsigned difference).0)
  size_nearest =
      subst (λ (number : ℤ). Nearest number 1 (Ok (unsigned difference).0)) (unsigned difference).1 (itself (unsigned difference).0)

  run : (listed : List ListedLine) → AreListed (with_stack stack memory) at listed absolute_difference_lines
      → Leaves pages 3 start (HasAbsoluteDifference start difference)
  run listed are =
      let one = are.0 in
      let two = are.1.0 in
      let three = are.1.1.0 in
      let first = register_of registers difference in
      let second = register_of registers (unsigned difference).0 in
      let after_first = subtracted_stack first.0 in
      let after_second = absolute_stack first.0 second.0 in
      let back =
      returned pages lists (with_stack after_second memory) two.next three.next false returns true
      (also (with_stack stack memory) (with_stack after_second memory) two.next _ three.next (same_program stack after_second memory sound)
      three.stands) in
      line_then pages 2 _ _ _
      (of_two pages stack memory at one.next zero returns lift functions.Subtract (OfTwo twos.Difference Y X) first.0 refl one.stands
      (subtracted stack memory y x in_y in_x difference first.0 first.1 nearest))
      (line_then pages 1 _ _ _
      (of_one pages after_first memory one.next two.next false returns true functions.AbsoluteValue (OfOne ones.AbsoluteValue X)
      second.0 refl
      (also (with_stack stack memory) (with_stack after_first memory) one.next _ two.next (same_program stack after_first memory sound)
      two.stands)
      (made_absolute after_first memory (units difference) first.1.holds (unsigned difference).0 second.0 second.1 size_nearest))
      (by_last pages _ back.left _ back.step
      record {
        returned = back.returned;
        x = second.0;
        last = first.0;
        is_absolute = second.1.holds ∙ ap Number (unsigned difference).1;
        is_difference = first.1.holds;
        only = back.memory;
      }))

pub absolute_difference : DecimalIsItsNearest → DecimalHasOneRegister → OneList → AbsoluteDifferenceReturns
absolute_difference itself registers lists pages s count at y x difference is_memory sound place has in_y in_x nearest =
    by_state at
    (λ (u : Machine). is_sound u.memory ≡ true → HasProgram u.memory at absolute_difference_lines
    → holding_of (stack_of u.memory).y ≡ Number y → holding_of (stack_of u.memory).x ≡ Number x
    → Leaves pages 3 u (HasAbsoluteDifference u difference))
    (λ stack memory zero returns lift own_sound own_has own_y own_x.
    run itself registers lists pages stack memory at zero returns lift y x difference own_sound own_y own_x nearest own_has.listed
    (in_turn (with_stack stack memory) own_sound at absolute_difference_lines own_has refl))
    s is_memory.status place sound has in_y in_x
