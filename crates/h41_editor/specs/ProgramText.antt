-- The text that the display shows in program mode. Line 00, the number of free registers and ? are
-- this project's choices.
use Rattle.std.specs.Prelude.{◌≡◌, ℕ, ◌-◌, List, [], ◌++◌, codes, nat_lt, MatchBool, if◌then◌else◌}
use Rattle.std.specs.Prelude.{Option, Some, None}
use Rattle.std.specs.Fmt.{decimal}
use Rattle.h41_editor.specs.NumberedLines.{HasNumbered}
use Rattle.h41_editor.specs.declared.numbered.NumberedLine.{NumberedLine}
use Rattle.h41_positions.specs.FocalState.{Machine}
use Rattle.h41_pages.specs.PageMap.{PageMap}
use Rattle.h41_ram.specs.RegisterMap.{RegisterMap, end_of, is_sound, main_start}
use Rattle.h41_text.specs.LineText.{line_text}

-- The number of a line has at least two digits.
abbrev pub number_text : ℕ → List ℕ
number_text number = (if nat_lt number 10 then codes "0" else []) ++ decimal number

-- The text of a line with its number.
abbrev pub numbered_text : NumberedLine → List ℕ
numbered_text numbered = number_text numbered.number ++ codes " " ++ line_text numbered.placed.line

-- The text for a line that its program does not have, or that cannot be read.
abbrev pub unknown_text : List ℕ
unknown_text = codes "?"

-- Line 00 shows how many registers are free for programs: those from 0C0 to below .END.
abbrev pub line_00_text : RegisterMap → List ℕ
line_00_text memory = codes "00 REG " ++ decimal (end_of memory - main_start)

-- The text of a line with its number, or ? if there is none.
abbrev pub text_of : Option NumberedLine → List ℕ
text_of (Some numbered) = numbered_text numbered
text_of None = unknown_text

-- The text of the line at the position.
abbrev pub ShowsLine : PageMap → Machine → List ℕ → Type 0
ShowsLine pages machine text =
    (numbered : Option NumberedLine)
    × HasNumbered pages machine.memory machine.focal.position numbered
    × (text ≡ text_of numbered)

-- The text of line 00 or of the line at the position. If memory is not sound, it is ?.
abbrev pub ShowsProgram : PageMap → Machine → List ℕ → Type 0
ShowsProgram pages machine text =
    MatchBool (is_sound machine.memory)
    (MatchBool machine.focal.at_line_00
    (text ≡ line_00_text machine.memory) (ShowsLine pages machine text))
    (text ≡ unknown_text)
