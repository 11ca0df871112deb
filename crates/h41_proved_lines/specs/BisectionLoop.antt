-- The program LBL "BISECT", LBL 01, XEQ "HALF", DSE 03, GTO 01, END: a bisection, which searches
-- for the square root of the number in R00. It calls the program HALF as many times as R03 counts.
use Rattle.std.specs.Prelude.{◌≡◌, ◌≢◌, ℕ, zero, suc, ◌+◌, ◌*◌, ◌^◌, ◌<◌, ◌≤◌, ◌⊎◌, true, List, []}
use Rattle.std.specs.Prelude.{◌∷◌, ◌++◌, length, codes, ℤ, pos, unsigned_abs}
use Rattle.h41_codes.specs.declared.functions.NameFunction.TheVariants.{ExecuteName}
use Rattle.h41_codes.specs.declared.functions.ParameterFunction.TheVariants.{DecrementSkip}
use Rattle.h41_codes.specs.declared.line.Line.{Line}
use Rattle.h41_codes.specs.declared.line.Line.TheVariants as lines
use Rattle.h41_codes.specs.declared.line.Operand.TheVariants.{Direct}
use Rattle.h41_decimal.specs.Units.{one, units}
use Rattle.h41_decimal.specs.declared.ten.Ten.{Ten}
use Rattle.h41_focal.specs.LineStep.{Left}
use Rattle.h41_pages.specs.PageMap.{PageMap}
use Rattle.h41_positions.specs.FocalState.{Machine}
use Rattle.h41_positions.specs.declared.position.Position.TheVariants.{Memory}
use Rattle.h41_ram.specs.NamedRegisters.{data_address, size_of}
use Rattle.h41_ram.specs.RegisterMap.{IsMemory, RegisterMap, is_sound, register_at}
use Rattle.h41_reasoning_lines.specs.LineRuns.{HasReturned, Leaves}
use Rattle.h41_reasoning_lines.specs.ProgramLines.{FindsName, IsProgram, ends_program}
use Rattle.h41_proved_lines.specs.Bisection.{Contains, IsBracket, IsMiddle, half_lines}

-- The lines before the END, with any link, key and distance in their bytes.
abbrev pub bisect_body : (link key distance : ℕ) → List Line
bisect_body link key distance =
    lines.GlobalLabel link key (codes "BISECT") ∷ lines.LocalLabel 1
    ∷ lines.Named ExecuteName (codes "HALF") ∷ lines.WithOperand DecrementSkip (Direct 3)
    ∷ lines.ShortGoTo 1 distance ∷ []

-- The lines, with their END or .END.
abbrev pub bisect_lines : (link key distance : ℕ) → Line → List Line
bisect_lines link key distance end = bisect_body link key distance ++ end ∷ []

-- The greatest absolute value of the bounds of a bracket, 10^49. The square of each number whose
-- absolute value is not above it is in range.
abbrev pub greatest_bound : ℕ
greatest_bound = 10 ^ 49 * one

-- A bracket is halved this many times. Each time, one of its bounds becomes the middle of the
-- bracket, and the other one stays.
abbrev pub Halvings : (rounds : ℕ) → (low high new_low new_high : ℤ) → Type 0
Halvings zero low high new_low new_high = (new_low ≡ low) × (new_high ≡ high)
Halvings (suc rounds) low high new_low new_high =
    (middle : Ten)
    × IsMiddle low high middle
    × (Halvings rounds (units middle) high new_low new_high
    ⊎ Halvings rounds low (units middle) new_low new_high)

-- Two memories of the same size differ only in the stack, LAST X, R01, R02 and R03. The addresses
-- of the stack and LAST X are 0 to 4.
pub record KeepsOthers (old new : RegisterMap) : Type 0 where
  pub status : length new.status ≡ length old.status
  pub main : length new.main ≡ length old.main
  pub same : (address : ℕ) → 4 < address → address ≢ data_address old 1
      → address ≢ data_address old 2 → address ≢ data_address old 3
      → register_at new address ≡ register_at old address

-- R01 and R02 are the bracket that is left after this many halvings. R03 contains 0. Nothing else
-- of memory has changed but the stack and LAST X.
pub record HasBisected (s : Machine) (rounds : ℕ) (number low high : ℤ) (left : Left) : Type 0 where
  pub returned : HasReturned s left
  pub new_low : ℤ
  pub new_high : ℤ
  pub halved : Halvings rounds low high new_low new_high
  pub bracket : IsBracket left.machine.memory number new_low new_high
  pub counted : Contains left.machine.memory 3 (pos 0)
  pub only : KeepsOthers s.memory left.machine.memory

-- Memory is sound, the calculator is at the first line of the program, and XEQ "HALF" finds the
-- program HALF. R01 and R02 are a bracket for the root of the number in R00, and their absolute
-- values are at most 10^49. R03 contains a whole number of rounds, from 1 to ten digits. There is
-- room for the return address of XEQ. Then the program returns after at most 18 lines for each
-- round and one more, and the bracket is halved as many times.
abbrev pub BisectionReturns : Type 0
BisectionReturns =
    (pages : PageMap) (s : Machine) (registers at link key distance : ℕ) (end : Line)
    (half half_link half_key half_distance : ℕ) (half_end : Line)
    (rounds : ℕ) (number low high : ℤ)
    → IsMemory registers s.memory → is_sound s.memory ≡ true → s.focal.position ≡ Memory at
    → IsProgram s.memory at (bisect_lines link key distance end) → ends_program end ≡ true
    → IsProgram s.memory half (half_lines half_link half_key half_distance half_end)
    → ends_program half_end ≡ true → FindsName s.memory (codes "HALF") half
    → length s.focal.returns ≤ 5 → 3 < size_of s.memory → 0 < rounds → rounds < 10 ^ 10
    → Contains s.memory 3 (pos (rounds * one)) → IsBracket s.memory number low high
    → unsigned_abs low ≤ greatest_bound → unsigned_abs high ≤ greatest_bound
    → Leaves pages (18 * rounds + 1) s (HasBisected s rounds number low high)
