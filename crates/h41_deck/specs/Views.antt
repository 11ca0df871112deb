-- What `show` prints, view by view. The form is this project's choice.
use Rattle.std.specs.Prelude.{◌≡◌, ℕ, List, ◌++◌, Result, Ok, codes}
use Rattle.h41_pages.specs.FunctionTables.{functions}
use Rattle.h41_commands.specs.declared.commands.View.{View}
use Rattle.h41_commands.specs.declared.commands.View.TheVariants.{Cpu, Register, Stack, Flags}
use Rattle.h41_commands.specs.declared.commands.View.TheVariants.{Alpha, Display, Position, Lines}
use Rattle.h41_commands.specs.declared.commands.View.TheVariants.{Image, Functions}
use Rattle.h41_pages.specs.PageMap.{PageMap}
use Rattle.h41_refusals.specs.declared.refusal.Refusal.{Refusal}
use Rattle.h41_debug.specs.Bench.{BenchState}
use Rattle.h41_debug.specs.Positions.{position_text}
use Rattle.h41_show.specs.RegisterText.{alpha_text}
use Rattle.h41_xrom.specs.Display.{ShowsDisplay}
use Rattle.h41_deck.specs.Answers.{text_unless}
use Rattle.h41_refusals.specs.Pages.{image_refusal}
use Rattle.h41_views.specs.PageViews.{functions_text, image_at_text}
use Rattle.h41_views.specs.ProgramListing.{ListsProgram}
use Rattle.h41_views.specs.Views.{flags_line, processor_text, register_line, stack_text}

-- The image in a bank of a page, or why it is not shown.
abbrev pub image_view : PageMap → ℕ → ℕ → Result (List ℕ) Refusal
image_view pages page bank =
    text_unless (image_refusal pages page bank) (image_at_text pages page bank)

-- A text as a line of its own.
abbrev pub line_of : List ℕ → List ℕ
line_of text = text ++ codes "\n"

-- The text of each view, or why it is refused.
abbrev pub Shows : View → BenchState → Result (List ℕ) Refusal → Type 0
Shows Cpu s made = made ≡ Ok (processor_text s.calculator.nut.processor s.calculator.nut.keys)
Shows (Register address) s made = made ≡ Ok (register_line s.calculator.nut.ram address)
Shows Stack s made = made ≡ Ok (stack_text s.calculator.nut.ram)
Shows Flags s made = made ≡ Ok (flags_line s.calculator.nut.ram)
Shows Alpha s made = made ≡ Ok (line_of (alpha_text s.calculator.nut.ram))
Shows Display s made =
    (shown : List ℕ) × ShowsDisplay s.calculator shown × (made ≡ Ok (line_of shown))
Shows Position s made = made ≡ Ok (line_of (position_text s))
Shows Lines s made =
    (listing : List ℕ) × ListsProgram s.calculator.nut.ram listing × (made ≡ Ok listing)
Shows (Image page bank) s made = made ≡ image_view s.calculator.nut.pages page bank
Shows Functions s made = made ≡ Ok (functions_text (functions s.calculator.nut.pages))
