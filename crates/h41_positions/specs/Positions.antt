-- The line at a position and what is found from there, for each kind of position.
use Rattle.std.specs.Prelude.{◌≡◌, ℕ, List, Option, Some, None, Result, Ok, Err, ⊤}
use Rattle.std.specs.Option.{option_map}
use Rattle.std.specs.Result.{result_map_both}
use Rattle.h41_codes.specs.declared.line.Line.{Line}
use Rattle.h41_codes.specs.declared.short_lines.ShortLine.{ShortLine}
use Rattle.h41_pages.specs.Addresses.{offset_of, page_of}
use Rattle.h41_pages.specs.FunctionTables.{code_of, keystroke_offsets}
use Rattle.h41_pages.specs.PageMap.{PageMap}
use Rattle.h41_positions.specs.PageLines.{AnswersLabel, AnswersLine, AnswersOffset, AnswersOwn}
use Rattle.h41_positions.specs.PageLines.{StartsAt, address_of}
use Rattle.h41_positions.specs.declared.position.PlacedLine.{PlacedLine}
use Rattle.h41_positions.specs.declared.position.Position.{Position}
use Rattle.h41_positions.specs.declared.position.Position.TheVariants.{Memory, Page}
use Rattle.h41_program.specs.Numbering.{before_in, number_in}
use Rattle.h41_program.specs.ProgramLines.{AnswersFirst, AnswersNext, AnswersOf}
use Rattle.h41_program.specs.Searches.{AnswersLocal, AnswersProgram, end_in, start_in}
use Rattle.h41_program.specs.ShortLines.{HasNoShort, HasShort}
use Rattle.h41_program.specs.declared.listed_line.ListedLine.{ListedLine}
use Rattle.h41_program.specs.declared.refusal.ProgramRefusal.{ProgramRefusal}
use Rattle.h41_program.specs.declared.refusal.ProgramRefusal.TheVariants.{BrokenProgram}
use Rattle.h41_ram.specs.RegisterMap.{RegisterMap}

-- A line of memory with its position.
abbrev pub in_memory : ListedLine → PlacedLine
in_memory listed = record { position = Memory listed.position; line = listed.line }

-- The position of an offset of a page.
abbrev pub in_page : ℕ → ℕ → Position
in_page page offset = Page (address_of page offset)

-- A line of a page with its position.
abbrev pub placed_in : ℕ → ListedLine → PlacedLine
placed_in page listed = record { position = in_page page listed.position; line = listed.line }

-- What is found, or the same refusal.
abbrev pub found_as : {A B : Type 0} → (A → B) → Result A ProgramRefusal → Result B ProgramRefusal
found_as seen found = result_map_both seen (λ refusal. refusal) found

-- The keystroke code of the page of an address.
abbrev pub code_at : PageMap → ℕ → List ℕ
code_at pages address = code_of pages (page_of address)

-- The offsets at which functions of that page begin in keystroke code.
abbrev pub begins_at : PageMap → ℕ → List ℕ
begins_at pages address = keystroke_offsets pages (page_of address)

-- The line at an address of a page.
abbrev pub LineInPage : PageMap → ℕ → Result PlacedLine ProgramRefusal → Type 0
LineInPage pages address answer =
    (first : Result ListedLine ProgramRefusal)
    × AnswersLine (code_at pages address) (offset_of address) first
    × (answer ≡ found_as (placed_in (page_of address)) first)

-- The line at a position.
abbrev pub LineAt : PageMap → RegisterMap → Position → Result PlacedLine ProgramRefusal → Type 0
LineAt pages memory (Memory at) answer =
    (first : Result ListedLine ProgramRefusal)
    × AnswersFirst memory at first
    × (answer ≡ found_as in_memory first)
LineAt pages memory (Page address) answer = LineInPage pages address answer

-- The position of the line after the line at a position, or of the byte or word just after that
-- line if no line follows or if it ends a page's program.
abbrev pub NextAt : PageMap → RegisterMap → Position → Result Position ProgramRefusal → Type 0
NextAt pages memory (Memory at) answer =
    (next : Result ℕ ProgramRefusal)
    × AnswersNext memory at next
    × (answer ≡ found_as Memory next)
NextAt pages memory (Page address) answer =
    (next : Result ℕ ProgramRefusal)
    × AnswersOffset (code_at pages address) (offset_of address) next
    × (answer ≡ found_as (in_page (page_of address)) next)

-- The line at a position and the next position.
abbrev pub LineAndNext : PageMap → RegisterMap → Position
    → Result (Line × Position) ProgramRefusal → Type 0
LineAndNext pages memory at (Ok both) =
    ((first : PlacedLine) × LineAt pages memory at (Ok first) × (first.line ≡ both.0))
    × NextAt pages memory at (Ok both.1)
LineAndNext pages memory at (Err refusal) =
    (refusal ≡ BrokenProgram) × LineAt pages memory at (Err BrokenProgram)

-- The short line whose first byte is at a position of memory, and the next position. There is none
-- for other lines, nulls and bytes that are no line, and none in pages.
abbrev pub ShortLineAt : PageMap → RegisterMap → Position → Option (ShortLine × Position) → Type 0
ShortLineAt pages memory (Memory at) (Some found) =
    (next : ℕ) × HasShort memory at found.0 next × (found.1 ≡ Memory next)
ShortLineAt pages memory (Memory at) None = HasNoShort memory at
ShortLineAt pages memory (Page address) (Some found) = ⊥
ShortLineAt pages memory (Page address) None = ⊤

-- The start of the program of a position.
abbrev pub StartOf : PageMap → RegisterMap → Position → Position → Type 0
StartOf pages memory (Memory at) start =
    (byte : ℕ) × AnswersOf (start_in at) memory 0 byte × (start ≡ Memory byte)
StartOf pages memory (Page address) start =
    (offset : ℕ)
    × StartsAt (code_at pages address) (begins_at pages address) (offset_of address) offset
    × (start ≡ in_page (page_of address) offset)

-- The position of LBL n for a search from a position.
abbrev pub LocalFrom : ℕ → PageMap → RegisterMap → Position → Option Position → Type 0
LocalFrom n pages memory (Memory at) found =
    (byte : Option ℕ) × AnswersLocal memory at n byte × (found ≡ option_map Memory byte)
LocalFrom n pages memory (Page address) found =
    (offset : Option ℕ)
    × AnswersLabel (code_at pages address) (begins_at pages address) (offset_of address) n offset
    × (found ≡ option_map (in_page (page_of address)) offset)

-- The position of a line in the position's program, which depends on the position's own place in
-- it.
abbrev pub FindsInProgram : (ℕ → List ListedLine → Option ℕ) → PageMap → RegisterMap → Position
    → Option Position → Type 0
FindsInProgram found_in pages memory (Memory at) found =
    (byte : Option ℕ)
    × AnswersProgram (found_in at) memory at byte
    × (found ≡ option_map Memory byte)
FindsInProgram found_in pages memory (Page address) found =
    (offset : Option ℕ)
    × AnswersOwn (found_in (offset_of address)) (code_at pages address) (begins_at pages address)
    (offset_of address) offset
    × (found ≡ option_map (in_page (page_of address)) offset)

-- The end of a program: its END or .END.
abbrev pub EndOf : PageMap → RegisterMap → Position → Option Position → Type 0
EndOf pages memory at found = FindsInProgram (λ place. end_in) pages memory at found

-- The line before the line at the position.
abbrev pub LineBefore : PageMap → RegisterMap → Position → Option Position → Type 0
LineBefore pages memory at found = FindsInProgram before_in pages memory at found

-- The number of the line at the position.
abbrev pub NumberAt : PageMap → RegisterMap → Position → Option ℕ → Type 0
NumberAt pages memory (Memory at) number = AnswersProgram (number_in at) memory at number
NumberAt pages memory (Page address) number =
    AnswersOwn (number_in (offset_of address)) (code_at pages address) (begins_at pages address)
    (offset_of address) number
