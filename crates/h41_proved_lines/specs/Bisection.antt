-- The program LBL "HALF", RCL 01, RCL 02, +, 2, /, X^2, RCL 00, X<Y?, GTO 02, LASTX, STO 01, RTN,
-- LBL 02, LASTX, STO 02, END: a round of a bisection, which searches for the square root of the
-- number in R00. R01 and R02 contain the bounds of the bracket.
use Rattle.std.specs.Prelude.{◌≡◌, ℕ, ◌*◌, ◌<◌, ◌⊎◌, true, List, [], ◌∷◌, ◌++◌, Some, Ok, codes}
use Rattle.std.specs.Prelude.{ℤ, pos, ◌+ℤ◌, ◌*ℤ◌, ◌<ℤ◌, ◌≤ℤ◌}
use Rattle.h41_codes.specs.declared.characters.Character.TheVariants as characters
use Rattle.h41_codes.specs.declared.functions.Function.TheVariants as functions
use Rattle.h41_codes.specs.declared.functions.RegisterFunction.TheVariants.{RecallRegister}
use Rattle.h41_codes.specs.declared.functions.RegisterFunction.TheVariants.{StoreRegister}
use Rattle.h41_codes.specs.declared.line.Line.{Line}
use Rattle.h41_codes.specs.declared.line.Line.TheVariants as lines
use Rattle.h41_decimal.specs.Holding.{Number, holding_of}
use Rattle.h41_decimal.specs.NearestDecimal.{Nearest}
use Rattle.h41_decimal.specs.Operations.{NearestQuotient}
use Rattle.h41_decimal.specs.Units.{one, units}
use Rattle.h41_decimal.specs.declared.ten.Ten.{Ten}
use Rattle.h41_focal.specs.LineStep.{Left}
use Rattle.h41_pages.specs.PageMap.{PageMap}
use Rattle.h41_positions.specs.FocalState.{Machine}
use Rattle.h41_positions.specs.declared.position.Position.TheVariants.{Memory}
use Rattle.h41_ram.specs.NamedRegisters.{data_of, size_of, with_data}
use Rattle.h41_ram.specs.RegisterMap.{IsMemory, RegisterMap, is_sound}
use Rattle.h41_reasoning_lines.specs.LineRuns.{HasReturned, Leaves}
use Rattle.h41_reasoning_lines.specs.ProgramLines.{IsProgram, ends_program}
use Rattle.h41_reasoning_lines.specs.Stacks.{Stack, with_stack}

-- The lines before the END, with any link, key and distance in their bytes.
abbrev pub half_body : (link key distance : ℕ) → List Line
half_body link key distance =
    lines.GlobalLabel link key (codes "HALF") ∷ lines.Register RecallRegister 1
    ∷ lines.Register RecallRegister 2 ∷ lines.Plain functions.Add
    ∷ lines.Number (characters.Two ∷ []) ∷ lines.Plain functions.Divide
    ∷ lines.Plain functions.Square ∷ lines.Register RecallRegister 0
    ∷ lines.Plain functions.TestXLessThanY ∷ lines.ShortGoTo 2 distance
    ∷ lines.Plain functions.LastX ∷ lines.Register StoreRegister 1 ∷ lines.Plain functions.Return
    ∷ lines.LocalLabel 2 ∷ lines.Plain functions.LastX ∷ lines.Register StoreRegister 2 ∷ []

-- The lines, with their END or .END.
abbrev pub half_lines : (link key distance : ℕ) → Line → List Line
half_lines link key distance end = half_body link key distance ++ end ∷ []

-- There is a data register with this number, and it contains this number, in units.
abbrev pub Contains : RegisterMap → ℕ → ℤ → Type 0
Contains memory n number =
    (register : List ℕ)
    × (data_of memory n ≡ Some register)
    × (holding_of register ≡ Number number)

-- The square of a number, as X^2 computes it: rounded to ten digits, and in range.
abbrev pub IsSquare : ℤ → Ten → Type 0
IsSquare number square = Nearest (number *ℤ number) one (Ok square)

-- The middle of two numbers, as + and / compute it: the sum and its half are rounded to ten digits,
-- and in range.
abbrev pub IsMiddle : (low high : ℤ) → Ten → Type 0
IsMiddle low high middle =
    (sum : Ten)
    × Nearest (low +ℤ high) 1 (Ok sum)
    × NearestQuotient (units sum) (pos (2 * one)) (Ok middle)

-- R01 and R02 are a bracket for the root of the number in R00: as the calculator computes them, the
-- square of R01 is at most this number, and that of R02 is greater.
pub record IsBracket (memory : RegisterMap) (number low high : ℤ) : Type 0 where
  pub in_0 : Contains memory 0 number
  pub in_1 : Contains memory 1 low
  pub in_2 : Contains memory 2 high
  pub low_square : Ten
  pub high_square : Ten
  pub is_low : IsSquare low low_square
  pub is_high : IsSquare high high_square
  pub at_most : units low_square ≤ℤ number
  pub above : number <ℤ units high_square

-- There is a new bracket for the same number. One of its bounds is the middle of the bracket
-- before, the other one is a bound of the bracket before. Nothing else of memory has changed but
-- the stack.
pub record HasHalved (s : Machine) (number low high middle : ℤ) (left : Left) : Type 0 where
  pub returned : HasReturned s left
  pub new_low : ℤ
  pub new_high : ℤ
  pub bracket : IsBracket left.machine.memory number new_low new_high
  pub halves : ((new_low ≡ middle) × (new_high ≡ high)) ⊎ ((new_low ≡ low) × (new_high ≡ middle))
  pub stack : Stack
  pub changed : ℕ
  pub is_bound : (changed ≡ 1) ⊎ (changed ≡ 2)
  pub register : List ℕ
  pub only : left.machine.memory ≡ with_data (with_stack stack s.memory) changed register

-- Memory is sound, the calculator is at the first line of the program, and R01 and R02 are a
-- bracket for the root of the number in R00. The middle and its square are in range. Then the
-- program returns after at most 14 lines, and there is a bracket again.
abbrev pub HalvesBracket : Type 0
HalvesBracket =
    (pages : PageMap) (s : Machine) (registers at link key distance : ℕ) (end : Line)
    (number low high : ℤ) (middle square : Ten)
    → IsMemory registers s.memory → is_sound s.memory ≡ true → s.focal.position ≡ Memory at
    → IsProgram s.memory at (half_lines link key distance end) → ends_program end ≡ true
    → 2 < size_of s.memory
    → IsBracket s.memory number low high → IsMiddle low high middle
    → IsSquare (units middle) square
    → Leaves pages 14 s (HasHalved s number low high (units middle))
