-- The program LBL "GCD", LBL 01, MOD, LASTX, X<>Y, X#0?, GTO 01, X<>Y, END: Euclid's algorithm.
use Rattle.std.specs.Prelude.{◌≡◌, ℕ, ◌*◌, ◌^◌, ◌<◌, true, List, [], ◌∷◌, ◌++◌, pos, codes}
use Rattle.h41_codes.specs.declared.functions.Function.TheVariants.{ExchangeXY, LastX, Modulo}
use Rattle.h41_codes.specs.declared.functions.Function.TheVariants.{TestXNotZero}
use Rattle.h41_codes.specs.declared.line.Line.{Line}
use Rattle.h41_codes.specs.declared.line.Line.TheVariants.{GlobalLabel, LocalLabel, Plain}
use Rattle.h41_codes.specs.declared.line.Line.TheVariants.{ShortGoTo}
use Rattle.h41_decimal.specs.Holding.{Number, holding_of}
use Rattle.h41_decimal.specs.Units.{one}
use Rattle.h41_focal.specs.LineStep.{Left}
use Rattle.h41_pages.specs.PageMap.{PageMap}
use Rattle.h41_positions.specs.FocalState.{Machine}
use Rattle.h41_positions.specs.declared.position.Position.TheVariants.{Memory}
use Rattle.h41_ram.specs.RegisterMap.{IsMemory, is_sound}
use Rattle.h41_reasoning_lines.specs.LineRuns.{HasReturned, Leaves}
use Rattle.h41_reasoning_lines.specs.ProgramLines.{IsProgram, ends_program}
use Rattle.h41_reasoning_lines.specs.Stacks.{stack_of, with_stack}

-- The lines before the END, with any link, key and distance in their bytes.
abbrev pub gcd_body : (link key distance : ℕ) → List Line
gcd_body link key distance =
    GlobalLabel link key (codes "GCD") ∷ LocalLabel 1 ∷ Plain Modulo ∷ Plain LastX
    ∷ Plain ExchangeXY ∷ Plain TestXNotZero ∷ ShortGoTo 1 distance ∷ Plain ExchangeXY ∷ []

-- The lines, with their END or .END.
abbrev pub gcd_lines : (link key distance : ℕ) → Line → List Line
gcd_lines link key distance end = gcd_body link key distance ++ end ∷ []

-- A number divides another one.
abbrev pub Divides : ℕ → ℕ → Type 0
Divides d n = (times : ℕ) × (n ≡ times * d)

-- A common divisor that every common divisor divides. That of 0 and 0 is 0.
pub record IsGreatestCommonDivisor (a b divisor : ℕ) : Type 0 where
  pub of_a : Divides divisor a
  pub of_b : Divides divisor b
  pub greatest : (d : ℕ) → Divides d a → Divides d b → Divides d divisor

-- X contains the greatest common divisor, and Y zero. Nothing else of memory has changed but
-- LAST X.
pub record HasGreatestCommonDivisor (s : Machine) (a b : ℕ) (left : Left) : Type 0 where
  pub returned : HasReturned s left
  pub divisor : ℕ
  pub is_greatest : IsGreatestCommonDivisor a b divisor
  pub x : List ℕ
  pub y : List ℕ
  pub last : List ℕ
  pub is_divisor : holding_of x ≡ Number (pos (divisor * one))
  pub is_zero : holding_of y ≡ Number (pos 0)
  pub only : left.machine.memory
      ≡ with_stack (record (stack_of s.memory) { y = y; x = x; last = last }) s.memory

-- Memory is sound, and the calculator is at the first line of the program. Y and X contain whole
-- numbers of at most ten digits, a and b. Then the program returns after at most 423 lines.
abbrev pub GreatestCommonDivisorReturns : Type 0
GreatestCommonDivisorReturns =
    (pages : PageMap) (s : Machine) (registers at a b link key distance : ℕ) (end : Line)
    → IsMemory registers s.memory → is_sound s.memory ≡ true → s.focal.position ≡ Memory at
    → IsProgram s.memory at (gcd_lines link key distance end) → ends_program end ≡ true
    → a < 10 ^ 10 → b < 10 ^ 10 → holding_of (stack_of s.memory).y ≡ Number (pos (a * one))
    → holding_of (stack_of s.memory).x ≡ Number (pos (b * one))
    → Leaves pages 423 s (HasGreatestCommonDivisor s a b)
