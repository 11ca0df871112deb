-- The lines -, ABS, RTN: the absolute difference of Y and X.
use Rattle.std.specs.Prelude.{◌≡◌, ℕ, true, List, [], ◌∷◌, Ok, ℤ, pos, ◌-ℤ◌, unsigned_abs}
use Rattle.h41_codes.specs.declared.functions.Function.TheVariants.{AbsoluteValue, Return, Subtract}
use Rattle.h41_codes.specs.declared.line.Line.{Line}
use Rattle.h41_codes.specs.declared.line.Line.TheVariants.{Plain}
use Rattle.h41_decimal.specs.Holding.{Number, holding_of}
use Rattle.h41_decimal.specs.NearestDecimal.{Nearest}
use Rattle.h41_decimal.specs.Units.{units}
use Rattle.h41_decimal.specs.declared.ten.Ten.{Ten}
use Rattle.h41_focal.specs.LineStep.{Left}
use Rattle.h41_pages.specs.PageMap.{PageMap}
use Rattle.h41_positions.specs.FocalState.{Machine}
use Rattle.h41_positions.specs.declared.position.Position.TheVariants.{Memory}
use Rattle.h41_ram.specs.RegisterMap.{IsMemory, is_sound}
use Rattle.h41_reasoning_lines.specs.LineRuns.{HasReturned, Leaves}
use Rattle.h41_reasoning_lines.specs.ProgramLines.{HasProgram}
use Rattle.h41_reasoning_lines.specs.Stacks.{stack_of, with_stack}

abbrev pub absolute_difference_lines : List Line
absolute_difference_lines = Plain Subtract ∷ Plain AbsoluteValue ∷ Plain Return ∷ []

-- X contains the size of the difference, and LAST X the difference. The stack has dropped. Nothing
-- else of memory has changed.
pub record HasAbsoluteDifference (s : Machine) (difference : Ten) (left : Left) : Type 0 where
  pub returned : HasReturned s left
  pub x : List ℕ
  pub last : List ℕ
  pub is_absolute : holding_of x ≡ Number (pos (unsigned_abs (units difference)))
  pub is_difference : holding_of last ≡ Number (units difference)
  pub only : left.machine.memory
      ≡ with_stack
      (record (stack_of s.memory) {
        z = (stack_of s.memory).t;
        y = (stack_of s.memory).z;
        x = x;
        last = last;
      })
      s.memory

-- Memory is sound, and has the three lines where the calculator is. Y and X contain numbers, whose
-- difference is rounded to ten digits and is in range. Then the program returns after three lines.
abbrev pub AbsoluteDifferenceReturns : Type 0
AbsoluteDifferenceReturns =
    (pages : PageMap) (s : Machine) (registers at : ℕ) (y x : ℤ) (difference : Ten)
    → IsMemory registers s.memory → is_sound s.memory ≡ true → s.focal.position ≡ Memory at
    → HasProgram s.memory at absolute_difference_lines
    → holding_of (stack_of s.memory).y ≡ Number y → holding_of (stack_of s.memory).x ≡ Number x
    → Nearest (y -ℤ x) 1 (Ok difference)
    → Leaves pages 3 s (HasAbsoluteDifference s difference)
