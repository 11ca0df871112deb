-- A trace: before each single step, a line that says where the calculator is and what is executed
-- next. The form is this project's choice.
use Rattle.std.specs.Prelude.{◌≡◌, ◌==◌, ℕ, zero, suc, List, [], ◌++◌, codes, if◌then◌else◌}
use Rattle.std.specs.Prelude.{MatchBool, MatchOption, Option, Some, None, Result, Ok, Err}
use Rattle.h41_breakpoints.specs.declared.location.Location.{Location}
use Rattle.h41_breakpoints.specs.declared.location.Location.TheVariants.{Line, Word}
use Rattle.h41_dis.specs.Spelling.{piece_text}
use Rattle.h41_nut.specs.Addresses.{address_after}
use Rattle.h41_pages.specs.PageMap.{PageMap, fetched}
use Rattle.h41_pages.specs.declared.refusal.FetchRefusal.{FetchRefusal}
use Rattle.h41_positions.specs.declared.position.PlacedLine.{PlacedLine}
use Rattle.h41_positions.specs.declared.position.Position.{Position}
use Rattle.h41_positions.specs.Positions.{LineAt}
use Rattle.h41_program.specs.declared.refusal.ProgramRefusal.{ProgramRefusal}
use Rattle.h41_ram.specs.RegisterMap.{RegisterMap, is_sound}
use Rattle.h41_text.specs.LineText.{line_text}
use Rattle.h41_words.specs.WordTable.{length_of}
use Rattle.h41_xrom.specs.Calculator.{CalculatorState, RefusesStep}
use Rattle.h41_xrom.specs.declared.refusal.CalculatorRefusal.{CalculatorRefusal}
use Rattle.h41_debug.specs.Bench.{BenchState, StepsInto}
use Rattle.h41_debug.specs.Positions.{location_of, position_text}

-- The text of an instruction or a line that cannot be read.
abbrev pub unknown_text : List ℕ
unknown_text = codes "?"

-- The text of an instruction of two words, by what is fetched of its second word.
abbrev pub with_second : ℕ → Result ℕ FetchRefusal → List ℕ
with_second first (Ok second) = piece_text first (Some second)
with_second first (Err refusal) = unknown_text

-- The text of the instruction at an address, by what is fetched of its first word.
abbrev pub instruction_text : PageMap → ℕ → Result ℕ FetchRefusal → List ℕ
instruction_text pages address (Ok first) =
    if length_of first == 2 then with_second first (fetched pages (address_after address 1))
    else piece_text first None
instruction_text pages address (Err refusal) = unknown_text

-- The text of the instruction at an address.
abbrev pub instruction_at : PageMap → ℕ → List ℕ
instruction_at pages address = instruction_text pages address (fetched pages address)

-- The text of a line, if it can be read.
abbrev pub line_or_unknown : Result PlacedLine ProgramRefusal → List ℕ
line_or_unknown (Ok placed) = line_text placed.line
line_or_unknown (Err refusal) = unknown_text

-- The text of the line at a position, in memory or in a page. If memory is not sound, no line can
-- be read.
abbrev pub TellsLine : PageMap → RegisterMap → Position → List ℕ → Type 0
TellsLine pages memory at text =
    MatchBool (is_sound memory)
    ((answer : Result PlacedLine ProgramRefusal)
    × LineAt pages memory at answer
    × (text ≡ line_or_unknown answer))
    (text ≡ unknown_text)

-- The text of the instruction or the line at a location.
abbrev pub TellsAt : Location → CalculatorState → List ℕ → Type 0
TellsAt (Word address) s text = text ≡ instruction_at s.nut.pages address
TellsAt (Line position) s text = TellsLine s.nut.pages s.nut.ram position text

-- What a trace prints for the next step: the mode and where the calculator is, a space, and the
-- text of what is there.
abbrev pub TellsStep : BenchState → List ℕ → Type 0
TellsStep s text =
    (next : List ℕ) × TellsAt (location_of s.calculator) s.calculator next
    × (text ≡ position_text s ++ codes " " ++ next)

-- The line of a trace.
abbrev pub traced_line : List ℕ → List ℕ
traced_line text = text ++ codes "\n"

-- So many single steps, up to the first that is refused, and its refusal, with a line before each
-- step, the refused one included.
abbrev pub Traces : ℕ → BenchState → BenchState → List ℕ → Option CalculatorRefusal → Type 0
Traces zero s t lines refusal = (t ≡ s) × (lines ≡ []) × (refusal ≡ None)
Traces (suc count) s t lines refusal =
    (text : List ℕ) × TellsStep s text × (rest : List ℕ) × (lines ≡ traced_line text ++ rest)
    × (why : Option CalculatorRefusal) × RefusesStep s.calculator why
    × MatchOption why (StepsInto (λ next. Traces count next t rest refusal) s)
    (λ why. (t ≡ s) × (rest ≡ []) × (refusal ≡ Some why))
