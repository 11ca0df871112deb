-- Number lines of program memory that are digits and radix marks alone.
use Rattle.std.specs.Prelude.{◌<◌, ◌≤◌, ℕ, IsTrue, List, length}
use Rattle.std.specs.List.{list_all}
use Rattle.h41_codes.specs.Heads.{IsIn}
use Rattle.h41_codes.specs.declared.characters.Character.{Character}
use Rattle.h41_codes.specs.declared.line.Line.TheVariants.{Number}
use Rattle.h41_decimal.specs.declared.ten.Ten.{Ten}
use Rattle.h41_numbers.specs.NumberLaws.{is_plain}
use Rattle.h41_numbers.specs.NumberLines.{IsNumberOf, digits_in}
use Rattle.h41_program.specs.ProgramBytes.{final_position, program_byte}
use Rattle.h41_program.specs.ProgramLines.{HasFirst, PositionFrom}
use Rattle.h41_ram.specs.RegisterMap.{RegisterMap}

-- At a position there is such a number line: it has one to ten digits, and no sign and no exponent;
-- the byte after it is before the last ones, and does not continue a number.
pub record StandsPlain (memory : RegisterMap) (at : ℕ) (text : List Character) (behind : ℕ)
    : Type 0 where
  pub first : HasFirst memory at
      (record { listed = record { position = at; line = Number text }; behind = behind })
  pub plain : IsTrue (list_all is_plain text)
  pub some : 1 ≤ length (digits_in text)
  pub few : length (digits_in text) ≤ 10
  pub inside : behind < final_position memory
  pub other : IsIn 0x10 0x1D (program_byte memory behind) → ⊥

-- At a position there is such a number line with this number. The next position is that of the
-- first line from the byte after it on, or that of this byte if no line follows.
abbrev pub HasNumber : RegisterMap → ℕ → Ten → ℕ → Type 0
HasNumber memory at number next =
    (text : List Character) × (behind : ℕ)
    × StandsPlain memory at text behind
    × PositionFrom memory behind next
    × IsNumberOf text number

-- At a position there is no such number line.
abbrev pub HasNoNumber : RegisterMap → ℕ → Type 0
HasNoNumber memory at =
    (text : List Character) (behind : ℕ) → StandsPlain memory at text behind → ⊥
