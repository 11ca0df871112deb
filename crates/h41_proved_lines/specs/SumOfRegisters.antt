-- The program LBL "SUM", ENTER, 0, LBL 01, RCL IND Y, +, ISG Y, GTO 01, END: the sum of the data
-- registers R00 to Rn. X contains the counter 0.nnn at the start.
use Rattle.std.specs.Prelude.{◌≡◌, ℕ, zero, suc, ◌+◌, ◌-◌, ◌*◌, ◌^◌, ◌<◌, ◌≤◌, true, List, [], ◌∷◌}
use Rattle.std.specs.Prelude.{◌++◌, Ok, ℤ, pos, ◌+ℤ◌, ◌*ℤ◌, unsigned_abs, codes}
use Rattle.h41_codes.specs.declared.characters.Character.TheVariants as characters
use Rattle.h41_codes.specs.declared.functions.Function.TheVariants.{Add, Enter}
use Rattle.h41_codes.specs.declared.functions.ParameterFunction.TheVariants.{IncrementSkip, Recall}
use Rattle.h41_codes.specs.declared.line.Line.{Line}
use Rattle.h41_codes.specs.declared.line.Line.TheVariants.{GlobalLabel, LocalLabel, Number}
use Rattle.h41_codes.specs.declared.line.Line.TheVariants.{Plain, ShortGoTo, WithOperand}
use Rattle.h41_codes.specs.declared.line.Operand.TheVariants.{Direct, Indirect}
use Rattle.h41_decimal.specs.Holding.{holding_of}
use Rattle.h41_decimal.specs.Holding as holding
use Rattle.h41_decimal.specs.NearestDecimal.{Nearest}
use Rattle.h41_decimal.specs.Units.{one, units}
use Rattle.h41_decimal.specs.declared.ten.Ten.{Ten}
use Rattle.h41_decimal.specs.declared.ten.Ten.TheVariants.{Zero}
use Rattle.h41_focal.specs.LineStep.{Left}
use Rattle.h41_pages.specs.PageMap.{PageMap}
use Rattle.h41_positions.specs.FocalState.{Machine}
use Rattle.h41_positions.specs.declared.position.Position.TheVariants.{Memory}
use Rattle.h41_ram.specs.NamedRegisters.{data_address, size_of}
use Rattle.h41_ram.specs.RegisterMap.{IsMemory, RegisterMap, is_sound, register_at}
use Rattle.h41_reasoning_lines.specs.LineRuns.{HasReturned, Leaves}
use Rattle.h41_reasoning_lines.specs.ProgramLines.{IsProgram, ends_program}
use Rattle.h41_reasoning_lines.specs.Stacks.{stack_of, with_stack}

-- The parameter of Y.
abbrev pub y_parameter : ℕ
y_parameter = 114

-- The lines before the END, with any link, key and distance in their bytes.
abbrev pub sum_body : (link key distance : ℕ) → List Line
sum_body link key distance =
    GlobalLabel link key (codes "SUM") ∷ Plain Enter ∷ Number (characters.Zero ∷ []) ∷ LocalLabel 1
    ∷ WithOperand Recall (Indirect y_parameter) ∷ Plain Add
    ∷ WithOperand IncrementSkip (Direct y_parameter) ∷ ShortGoTo 1 distance ∷ []

-- The lines, with their END or .END.
abbrev pub sum_lines : (link key distance : ℕ) → Line → List Line
sum_lines link key distance end = sum_body link key distance ++ end ∷ []

-- A data register contains this number, in units.
abbrev pub HasNumber : RegisterMap → ℕ → ℤ → Type 0
HasNumber memory n number =
    holding_of (register_at memory (data_address memory n)) ≡ holding.Number number

-- The numbers of this many data registers are added to a decimal in turn, as + does: each sum is
-- rounded to ten digits, and is in range.
abbrev pub AddsUp : RegisterMap → (first count : ℕ) → (before after : Ten) → Type 0
AddsUp memory first zero before after = after ≡ before
AddsUp memory first (suc count) before after =
    (number : ℤ)
    × (between : Ten)
    × HasNumber memory first number
    × Nearest (units before +ℤ number) 1 (Ok between)
    × AddsUp memory (suc first) count between after

-- X contains the sum, Y the counter after its last count, and LAST X what Rn contains. Z and T
-- contain what Y contained. Nothing else of memory has changed.
pub record HasSum (s : Machine) (n : ℕ) (sum : ℤ) (left : Left) : Type 0 where
  pub returned : HasReturned s left
  pub x : List ℕ
  pub y : List ℕ
  pub is_sum : holding_of x ≡ holding.Number sum
  pub is_counter : holding_of y ≡ holding.Number (pos ((n + 1) * one + n * 10 ^ 105))
  pub only : left.machine.memory
      ≡ with_stack
      (record {
        t = (stack_of s.memory).y;
        z = (stack_of s.memory).y;
        y = y;
        x = x;
        last = register_at s.memory (data_address s.memory n);
      })
      s.memory

-- Memory is sound, and the calculator is at the first line of the program. X contains 0.nnn, and
-- there is a register Rn. R00 to Rn contain numbers, whose sum, rounded after each addition, is
-- always in range. Then the program returns after at most 5 n + 8 lines.
abbrev pub SumReturns : Type 0
SumReturns =
    (pages : PageMap) (s : Machine) (registers at n link key distance : ℕ) (end : Line)
    (sum : Ten)
    → IsMemory registers s.memory → is_sound s.memory ≡ true → s.focal.position ≡ Memory at
    → IsProgram s.memory at (sum_lines link key distance end) → ends_program end ≡ true
    → n < size_of s.memory
    → holding_of (stack_of s.memory).x ≡ holding.Number (pos (n * 10 ^ 105))
    → AddsUp s.memory 0 (n + 1) Zero sum
    → Leaves pages (5 * n + 8) s (HasSum s n (units sum))

-- The sum of the first numbers of a sequence.
abbrev pub sum_of_first : (ℕ → ℤ) → ℕ → ℤ
sum_of_first numbers zero = pos 0
sum_of_first numbers (suc count) = sum_of_first numbers count +ℤ numbers count

-- A number with this many decimals, in units.
abbrev pub with_decimals : ℕ → ℤ → ℤ
with_decimals decimals number = number *ℤ pos (10 ^ (108 - decimals))

-- The same, if R00 to Rn contain numbers with at most some number of decimals, and each partial sum
-- has at most ten digits when it is written with these decimals. Then X contains the exact sum.
abbrev pub ExactSumReturns : Type 0
ExactSumReturns =
    (pages : PageMap) (s : Machine) (registers at n link key distance : ℕ) (end : Line)
    (decimals : ℕ) (numbers : ℕ → ℤ)
    → IsMemory registers s.memory → is_sound s.memory ≡ true → s.focal.position ≡ Memory at
    → IsProgram s.memory at (sum_lines link key distance end) → ends_program end ≡ true
    → n < size_of s.memory
    → holding_of (stack_of s.memory).x ≡ holding.Number (pos (n * 10 ^ 105)) → decimals ≤ 99
    → ((i : ℕ) → i ≤ n → HasNumber s.memory i (with_decimals decimals (numbers i)))
    → ((i : ℕ) → i ≤ n + 1 → unsigned_abs (sum_of_first numbers i) < 10 ^ 10)
    → Leaves pages (5 * n + 8) s
    (HasSum s n (with_decimals decimals (sum_of_first numbers (n + 1))))
