-- Definitions for the private functions that load bytes.
use Rattle.std.specs.Prelude.{◌≡◌, ℕ, List, [], ◌∷◌, ◌++◌, length, if◌then◌else◌, Option}
use Rattle.std.specs.Prelude.{Some, None, MatchOption, IsOkAnd, Result, Ok, Err}
use Rattle.h41_program.specs.Lines.{is_end}
use Rattle.h41_codes.specs.declared.line.Line.{Line}
use Rattle.h41_ram.specs.RegisterMap.{RegisterMap}
use Rattle.h41_program.specs.declared.listed_line.ListedLine.{ListedLine}
use Rattle.h41_program.specs.declared.packer.Packer.{Packer}
use Rattle.h41_program.specs.declared.refusal.ProgramRefusal.{ProgramRefusal}
use Rattle.h41_program.specs.declared.refusal.ProgramRefusal.TheVariants.{BrokenProgram}
use Rattle.h41_program.specs.Edits.{lines_of, before_end, loaded_of}
use Rattle.h41_program.specs.private.Packers.{Packs}
use Rattle.h41_program.specs.ProgramLines.{LinesFrom, Reads}

-- A packer has the lines of memory before .END., or the list does not reach it.
abbrev pub PacksProgram : RegisterMap → Result Packer ProgramRefusal → Type 0
PacksProgram memory result =
    (lines : List ListedLine) × LinesFrom memory 0 lines
    × MatchOption (before_end lines) (result ≡ Err BrokenProgram)
    (λ listed. IsOkAnd result (λ packer. Packs packer (lines_of listed)))

-- The lines of bytes to be loaded were appended to others, or there are none.
abbrev pub PutsLoaded : Packer → Packer → List ℕ → Result (Unit {0}) ProgramRefusal → Type 0
PutsLoaded old new bytes result =
    (given : List ListedLine) × Reads bytes (length bytes) 0 given
    × ((front : List Line) → Packs old front
    → MatchOption (loaded_of bytes given) (result ≡ Err BrokenProgram)
    (λ loaded. (result ≡ Ok tt) × Packs new (front ++ loaded)))

-- The pending line, if there is one.
abbrev pub listed_option : Option Line → List Line
listed_option None = []
listed_option (Some line) = line ∷ []

-- The pending line as the last one: an END is dropped.
abbrev pub kept_option : Option Line → List Line
kept_option None = []
kept_option (Some line) = if is_end line then [] else line ∷ []
