-- The commands that the words of a line specify: BadCommand (50) if they specify none, otherwise
-- BadNumber (51) if a number is wrong. The language is this project's own.
use Rattle.std.specs.Prelude.{ℕ, Bool, true, false, List, [], ◌∷◌, length, take, drop, ◌==◌}
use Rattle.std.specs.Prelude.{if◌then◌else◌, Option, Some, None, is_some, Result, Ok, Err, codes}
use Rattle.std.specs.Prelude.{bytes_eq}
use Rattle.std.specs.Option.{option_map_or}
use Rattle.h41_keys.specs.declared.key.Key.{Key}
use Rattle.h41_keys.specs.Keyboard.{key_named}
use Rattle.h41_breakpoints.specs.declared.location.Location.{Location}
use Rattle.h41_breakpoints.specs.declared.location.Location.TheVariants.{Line, Word}
use Rattle.h41_positions.specs.declared.position.Position.TheVariants as positions
use Rattle.h41_commands.specs.declared.commands.Command.{Command}
use Rattle.h41_commands.specs.declared.commands.Command.TheVariants.{Plug, Load, Unplug, Size}
use Rattle.h41_commands.specs.declared.commands.Command.TheVariants.{Reset, Call, Step, Run, Trace}
use Rattle.h41_commands.specs.declared.commands.Command.TheVariants.{Break, Unbreak, Show}
use Rattle.h41_commands.specs.declared.commands.Command.TheVariants as commands
use Rattle.h41_commands.specs.declared.commands.BlockKind.{BlockKind}
use Rattle.h41_commands.specs.declared.commands.BlockKind.TheVariants.{Page, Program}
use Rattle.h41_commands.specs.declared.commands.PageKind.{PageKind}
use Rattle.h41_commands.specs.declared.commands.PageKind.TheVariants.{Words, Image, Asm}
use Rattle.h41_commands.specs.declared.commands.PlainKind.{PlainKind}
use Rattle.h41_commands.specs.declared.commands.PlainKind.TheVariants as plain
use Rattle.h41_commands.specs.declared.commands.ProgramKind.{ProgramKind}
use Rattle.h41_commands.specs.declared.commands.ProgramKind.TheVariants.{Bytes, Text}
use Rattle.h41_commands.specs.declared.commands.View.{View}
use Rattle.h41_commands.specs.declared.commands.View.TheVariants.{Cpu, Register, Stack, Flags}
use Rattle.h41_commands.specs.declared.commands.View.TheVariants.{Alpha, Display, Position, Lines}
use Rattle.h41_commands.specs.declared.commands.View.TheVariants.{Functions}
use Rattle.h41_commands.specs.declared.commands.View.TheVariants as views
use Rattle.h41_commands.specs.declared.refusal.LineRefusal.{LineRefusal}
use Rattle.h41_commands.specs.declared.refusal.LineRefusal.TheVariants.{BadCommand, BadNumber}
use Rattle.h41_commands.specs.Numbers.{count_up_to, hexadecimal, number_up_to}

-- A value is passed on to the next step, and a refusal ends the reading.
abbrev pub and_then : {A B : Type 0} → Result A LineRefusal → (A → Result B LineRefusal)
    → Result B LineRefusal
and_then (Ok value) next = next value
and_then (Err refusal) next = Err refusal

-- The most steps of one command.
abbrev pub most_steps : ℕ
most_steps = 9999999

-- The greatest number that `size` accepts. A number that is not below the size of main memory is
-- refused as SizeTooLarge (17) when the command is executed.
abbrev pub most_registers : ℕ
most_registers = 9999

-- The greatest position in memory that a breakpoint may have.
abbrev pub most_position : ℕ
most_position = 9999

-- The most words of one listing.
abbrev pub most_words : ℕ
most_words = 4096

-- A word that begins with b names a bank: bN, where N is one decimal digit. Banks other than 1 to 4
-- are refused when the command is executed.
abbrev pub is_bank_word : List ℕ → Bool
is_bank_word word = bytes_eq (take 1 word) (codes "b")

-- The number of the bank that a word names.
abbrev pub bank_number : List ℕ → Result ℕ LineRefusal
bank_number word =
    if length word == 2 then number_up_to 9 10 (drop 1 word) else Err BadNumber

-- The bank that is meant if a command names none.
abbrev pub first_bank : ℕ
first_bank = 1

-- A command whose block fills the bank with this number of the page with this digit.
abbrev pub plug_at : PageKind → List ℕ → ℕ → Bool → Result Command LineRefusal
plug_at kind page bank writable =
    and_then (hexadecimal 1 page) (λ page. Ok (Plug kind page bank writable))

-- A command whose block fills a bank of a page, by the word for the bank.
abbrev pub plug_at_bank : PageKind → List ℕ → List ℕ → Bool → Result Command LineRefusal
plug_at_bank kind page bank writable =
    if is_bank_word bank
    then and_then (bank_number bank) (λ bank. plug_at kind page bank writable)
    else Err BadCommand

-- words P [bN] [rw], image P [bN] [rw] and asm P [bN] [rw]: the block fills a bank of a page, which
-- microcode may write to with rw.
abbrev pub plug_with : PageKind → List ℕ → List (List ℕ) → Result Command LineRefusal
plug_with kind page [] = plug_at kind page first_bank false
plug_with kind page (option ∷ []) =
    if bytes_eq option (codes "rw")
    then plug_at kind page first_bank true
    else plug_at_bank kind page option false
plug_with kind page (bank ∷ option ∷ []) =
    if bytes_eq option (codes "rw") then plug_at_bank kind page bank true else Err BadCommand
plug_with kind page options = Err BadCommand

-- The command of all words after the first.
abbrev pub plug_command : PageKind → List (List ℕ) → Result Command LineRefusal
plug_command kind [] = Err BadCommand
plug_command kind (page ∷ options) = plug_with kind page options

-- load and program: the block is a program.
abbrev pub load_command : ProgramKind → List (List ℕ) → Result Command LineRefusal
load_command kind [] = Ok (Load kind)
load_command kind operands = Err BadCommand

-- unplug P.
abbrev pub unplug_command : List (List ℕ) → Result Command LineRefusal
unplug_command (page ∷ []) = and_then (hexadecimal 1 page) (λ page. Ok (Unplug page))
unplug_command operands = Err BadCommand

-- size n.
abbrev pub size_command : List (List ℕ) → Result Command LineRefusal
size_command (count ∷ []) =
    and_then (number_up_to most_registers 10 count) (λ count. Ok (Size count))
size_command operands = Err BadCommand

-- reset.
abbrev pub reset_command : List (List ℕ) → Result Command LineRefusal
reset_command [] = Ok Reset
reset_command operands = Err BadCommand

-- call hhhh.
abbrev pub call_command : List (List ℕ) → Result Command LineRefusal
call_command (address ∷ []) = and_then (hexadecimal 4 address) (λ address. Ok (Call address))
call_command operands = Err BadCommand

-- step [n].
abbrev pub step_command : List (List ℕ) → Result Command LineRefusal
step_command [] = Ok (Step 1)
step_command (count ∷ []) = and_then (number_up_to most_steps 10 count) (λ count. Ok (Step count))
step_command operands = Err BadCommand

-- run n and trace n: at most so many steps.
abbrev pub counted_command : (ℕ → Command) → List (List ℕ) → Result Command LineRefusal
counted_command command (count ∷ []) =
    and_then (number_up_to most_steps 10 count) (λ count. Ok (command count))
counted_command command operands = Err BadCommand

-- The location of a breakpoint, by its kind: w hhhh is a word, l n a line in memory, p hhhh a line
-- in a page.
abbrev pub location_by : List ℕ → List ℕ → Result Location LineRefusal
location_by kind number =
    if bytes_eq kind (codes "w") then and_then (hexadecimal 4 number) (λ address. Ok (Word address))
    else (if bytes_eq kind (codes "l")
    then and_then (number_up_to most_position 10 number) (λ byte. Ok (Line (positions.Memory byte)))
    else (if bytes_eq kind (codes "p")
    then and_then (hexadecimal 4 number) (λ address. Ok (Line (positions.Page address)))
    else Err BadCommand))

-- The location of a breakpoint from the words after break or unbreak.
abbrev pub break_location : List (List ℕ) → Result Location LineRefusal
break_location (kind ∷ number ∷ []) = location_by kind number
break_location operands = Err BadCommand

-- break and unbreak, followed by a location.
abbrev pub placed_command : (Location → Command) → List (List ℕ) → Result Command LineRefusal
placed_command command operands =
    and_then (break_location operands) (λ location. Ok (command location))

-- The key that a word names.
abbrev pub key_of : List ℕ → Result Key LineRefusal
key_of name = option_map_or (λ key. Ok key) (key_named name) (Err BadCommand)

-- The keys that words name, in their order.
abbrev pub keys_of : List (List ℕ) → Result (List Key) LineRefusal
keys_of [] = Ok []
keys_of (name ∷ names) =
    and_then (key_of name) (λ key. and_then (keys_of names) (λ keys. Ok (key ∷ keys)))

-- key NAME ..
abbrev pub key_command : List (List ℕ) → Result Command LineRefusal
key_command [] = Err BadCommand
key_command names = and_then (keys_of names) (λ keys. Ok (commands.Key keys))

-- A listing from an address on.
abbrev pub listing_of : ℕ → List ℕ → Result Command LineRefusal
listing_of address count =
    and_then (count_up_to most_words count) (λ count. Ok (commands.List address count))

-- list hhhh n.
abbrev pub list_command : List (List ℕ) → Result Command LineRefusal
list_command (address ∷ count ∷ []) =
    and_then (hexadecimal 4 address) (λ address. listing_of address count)
list_command operands = Err BadCommand

-- The value beside a word in a table.
abbrev pub named_in : {A : Type 0} → List (List ℕ × A) → List ℕ → Option A
named_in [] word = None
named_in (row ∷ rows) word = if bytes_eq word row.0 then Some row.1 else named_in rows word

-- The views that one word names.
abbrev pub views_by_name : List (List ℕ × View)
views_by_name =
    (codes "cpu", Cpu)
    ∷ (codes "stack", Stack)
    ∷ (codes "flags", Flags)
    ∷ (codes "alpha", Alpha)
    ∷ (codes "display", Display)
    ∷ (codes "pos", Position)
    ∷ (codes "lines", Lines)
    ∷ (codes "functions", Functions)
    ∷ []

-- The view that one word names.
unfoldable pub view_named : List ℕ → Result View LineRefusal
view_named what = option_map_or (λ view. Ok view) (named_in views_by_name what) (Err BadCommand)

-- The image in a bank of a page.
abbrev pub image_view : List ℕ → ℕ → Result View LineRefusal
image_view page bank = and_then (hexadecimal 1 page) (λ page. Ok (views.Image page bank))

-- The image in a bank of a page, by the word for the bank.
abbrev pub image_view_at : List ℕ → List ℕ → Result View LineRefusal
image_view_at page bank =
    if is_bank_word bank
    then and_then (bank_number bank) (λ bank. image_view page bank)
    else Err BadCommand

-- show WHAT, show ram hhh and show image P [bN].
abbrev pub view_of : List (List ℕ) → Result View LineRefusal
view_of (what ∷ []) = view_named what
view_of (what ∷ address ∷ []) =
    if bytes_eq what (codes "ram")
    then and_then (hexadecimal 3 address) (λ address. Ok (Register address))
    else (if bytes_eq what (codes "image") then image_view address first_bank else Err BadCommand)
view_of (what ∷ page ∷ bank ∷ []) =
    if bytes_eq what (codes "image") then image_view_at page bank else Err BadCommand
view_of operands = Err BadCommand

-- The command show.
abbrev pub show_command : List (List ℕ) → Result Command LineRefusal
show_command operands = and_then (view_of operands) (λ view. Ok (Show view))

-- The kind of block that each first word opens.
abbrev pub kinds_by_name : List (List ℕ × BlockKind)
kinds_by_name =
    (codes "words", Page Words)
    ∷ (codes "image", Page Image)
    ∷ (codes "asm", Page Asm)
    ∷ (codes "load", Program Bytes)
    ∷ (codes "program", Program Text)
    ∷ []

-- The kind of block that a first word opens, if it opens one.
unfoldable pub kind_of_word : List ℕ → Option BlockKind
kind_of_word name = named_in kinds_by_name name

-- The command of a line that opens a block.
abbrev pub opening_command : BlockKind → List (List ℕ) → Result Command LineRefusal
opening_command (Page kind) operands = plug_command kind operands
opening_command (Program kind) operands = load_command kind operands

-- The commands without a block, by their first words.
abbrev pub plain_by_name : List (List ℕ × PlainKind)
plain_by_name =
    (codes "unplug", plain.Unplug)
    ∷ (codes "size", plain.Size)
    ∷ (codes "reset", plain.Reset)
    ∷ (codes "call", plain.Call)
    ∷ (codes "step", plain.Step)
    ∷ (codes "run", plain.Run)
    ∷ (codes "trace", plain.Trace)
    ∷ (codes "break", plain.Break)
    ∷ (codes "unbreak", plain.Unbreak)
    ∷ (codes "list", plain.List)
    ∷ (codes "show", plain.Show)
    ∷ (codes "key", plain.Key)
    ∷ []

-- The command without a block that a first word names.
unfoldable pub plain_of_word : List ℕ → Option PlainKind
plain_of_word name = named_in plain_by_name name

-- How the words after the first are read, by the command.
abbrev pub read_plain : PlainKind → List (List ℕ) → Result Command LineRefusal
read_plain plain.Unplug operands = unplug_command operands
read_plain plain.Size operands = size_command operands
read_plain plain.Reset operands = reset_command operands
read_plain plain.Call operands = call_command operands
read_plain plain.Step operands = step_command operands
read_plain plain.Run operands = counted_command Run operands
read_plain plain.Trace operands = counted_command Trace operands
read_plain plain.Break operands = placed_command Break operands
read_plain plain.Unbreak operands = placed_command Unbreak operands
read_plain plain.List operands = list_command operands
read_plain plain.Show operands = show_command operands
read_plain plain.Key operands = key_command operands

-- The command of a line that opens no block, by its first word.
abbrev pub plain_command : List ℕ → List (List ℕ) → Result Command LineRefusal
plain_command name operands =
    option_map_or (λ kind. read_plain kind operands) (plain_of_word name) (Err BadCommand)

-- The command of a line, by the kind of block that its first word opens.
abbrev pub command_by : Option BlockKind → List ℕ → List (List ℕ) → Result Command LineRefusal
command_by (Some kind) name operands = opening_command kind operands
command_by None name operands = plain_command name operands

-- The command that the words of a line specify.
abbrev pub command_of : List (List ℕ) → Result Command LineRefusal
command_of [] = Err BadCommand
command_of (name ∷ operands) = command_by (kind_of_word name) name operands

-- A line opens a block by its first word, whatever follows.
abbrev pub is_opening : List (List ℕ) → Bool
is_opening [] = false
is_opening (name ∷ operands) = is_some (kind_of_word name)

-- The kind of a command's block, if it has one.
abbrev pub kind_of : Command → Option BlockKind
kind_of (Plug kind page bank writable) = Some (Page kind)
kind_of (Load kind) = Some (Program kind)
kind_of command = None
