-- Programs in memory: how they are loaded, and the number of data registers above them. The memory
-- after a load is defined by the list of its lines.
use Rattle.std.specs.Prelude.{◌≡◌, ℕ, not, List, Option, Some, None, MatchOption, Result, Ok, Err}
use Rattle.std.specs.Bool.{then_some}
use Rattle.std.specs.Option.{option_or}
use Rattle.std.specs.Result.{result_err, result_unwrap_or}
use Rattle.h41_positions.specs.FocalState.{halted_at}
use Rattle.h41_positions.specs.declared.position.Position.TheVariants.{Memory}
use Rattle.h41_program.specs.declared.refusal.ProgramRefusal as program
use Rattle.h41_program.specs.Edits.{LoadGives}
use Rattle.h41_program.specs.Size.{size_outcome}
use Rattle.h41_ram.specs.RegisterMap.{RegisterMap, is_sound}
use Rattle.h41_xrom.specs.declared.refusal.CalculatorRefusal.{CalculatorRefusal}
use Rattle.h41_xrom.specs.declared.refusal.CalculatorRefusal.TheVariants.{Program, MemoryLost, Busy}
use Rattle.h41_xrom.specs.Calculator.{CalculatorState, is_idle, not_typing}

-- Programs can be changed only while nothing runs, otherwise Busy (24), and if memory is sound,
-- otherwise MemoryLost (15).
abbrev pub change_refusal : CalculatorState → Option CalculatorRefusal
change_refusal s =
    option_or (then_some (not (is_idle s.mode)) Busy)
    (then_some (not (is_sound s.nut.ram)) MemoryLost)

-- The calculator with another memory.
abbrev pub with_memory : RegisterMap → CalculatorState → CalculatorState
with_memory memory s = record s { nut = record s.nut { ram = memory } }

-- The calculator with another memory, at line 00 of the program that begins at a byte of memory,
-- with an empty return stack. Stack lift and message are unchanged.
abbrev pub with_program : RegisterMap → ℕ → CalculatorState → CalculatorState
with_program memory start s =
    record (with_memory memory s) { focal = halted_at (Memory start) s.focal }

-- The calculator after a load, with the entry of a number or a text ended, or why it is refused.
abbrev pub after_load : CalculatorState → Result (RegisterMap × ℕ) program.ProgramRefusal
    → Result CalculatorState CalculatorRefusal
after_load s (Ok outcome) = Ok (with_program outcome.0 outcome.1 (not_typing s))
after_load s (Err why) = Err (Program why)

-- The calculator after a new size, or why it is refused.
abbrev pub after_size : CalculatorState → Result (RegisterMap × Unit {0}) program.ProgramRefusal
    → Result CalculatorState CalculatorRefusal
after_size s (Ok outcome) = Ok (with_memory outcome.0 (not_typing s))
after_size s (Err why) = Err (Program why)

-- Bytes are loaded after the programs in memory, or refused: Busy (24), MemoryLost (15), and then,
-- by their lines, BrokenProgram (14) or NoRoom (16).
abbrev pub LoadMakes : CalculatorState → List ℕ → Result CalculatorState CalculatorRefusal → Type 0
LoadMakes s bytes made =
    MatchOption (change_refusal s)
    ((outcome : Result (RegisterMap × ℕ) program.ProgramRefusal)
    × LoadGives s.nut.ram bytes outcome
    × (made ≡ after_load s outcome))
    (λ why. made ≡ Err why)

-- What is made, unless there is a refusal.
abbrev pub unless_refused : Option CalculatorRefusal → Result CalculatorState CalculatorRefusal
    → Result CalculatorState CalculatorRefusal
unless_refused None made = made
unless_refused (Some why) made = Err why

-- Memory is given so many data registers, or this is refused: Busy (24), MemoryLost (15), and then
-- SizeTooLarge (17) or NoRoom (16).
abbrev pub size_makes : CalculatorState → ℕ → Result CalculatorState CalculatorRefusal
size_makes s count = unless_refused (change_refusal s) (after_size s (size_outcome s.nut.ram count))

-- The calculator becomes what was made of it, or is unchanged and there is a refusal.
abbrev pub Becomes : Result CalculatorState CalculatorRefusal → CalculatorState → CalculatorState
    → Option CalculatorRefusal → Type 0
Becomes made s t refusal = (t ≡ result_unwrap_or made s) × (refusal ≡ result_err made)

-- Bytes are loaded, or refused and nothing changes.
abbrev pub Loads : List ℕ → CalculatorState → CalculatorState → Option CalculatorRefusal → Type 0
Loads bytes s t refusal =
    (made : Result CalculatorState CalculatorRefusal)
    × LoadMakes s bytes made
    × Becomes made s t refusal
