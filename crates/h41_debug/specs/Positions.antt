-- Where the calculator is, and the text of that. The form is this project's choice.
use Rattle.std.specs.Prelude.{ℕ, List, ◌++◌, codes}
use Rattle.h41_breakpoints.specs.declared.location.Location.{Location}
use Rattle.h41_breakpoints.specs.declared.location.Location.TheVariants.{Line, Word}
use Rattle.h41_digits.specs.Register.{hexadecimal_text}
use Rattle.h41_debug.specs.Bench.{BenchState}
use Rattle.h41_positions.specs.declared.position.Position.TheVariants.{Memory, Page}
use Rattle.h41_views.specs.ProgramListing.{byte_digits}
use Rattle.h41_xrom.specs.Calculator.{CalculatorState}
use Rattle.h41_xrom.specs.declared.calculator.Mode.{Mode}
use Rattle.h41_xrom.specs.declared.calculator.Mode.TheVariants as modes

-- Where the calculator is in this mode: before the next word while a function runs, otherwise
-- before the line at its position.
abbrev pub location_in : CalculatorState → Mode → Location
location_in s modes.Idle = Line s.focal.position
location_in s modes.Run = Line s.focal.position
location_in s (modes.Micro caller) = Word s.nut.processor.pc

-- Where the calculator is.
abbrev pub location_of : CalculatorState → Location
location_of s = location_in s s.mode

-- The digits of a location: an address has four hexadecimal digits, after P for a line of a page.
abbrev pub location_digits : Location → List ℕ
location_digits (Word address) = hexadecimal_text 4 address
location_digits (Line (Memory byte)) = byte_digits byte
location_digits (Line (Page address)) = codes "P" ++ hexadecimal_text 4 address

-- The name of a mode.
abbrev pub mode_name : Mode → List ℕ
mode_name modes.Idle = codes "Idle"
mode_name modes.Run = codes "Run"
mode_name (modes.Micro caller) = codes "Micro"

-- The mode, and where the calculator is.
abbrev pub position_text : BenchState → List ℕ
position_text s =
    mode_name s.calculator.mode ++ codes " " ++ location_digits (location_of s.calculator)
