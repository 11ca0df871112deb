-- The text of a register, and of ALPHA.
use Rattle.std.specs.Prelude.{ℕ, List}
use Rattle.h41_digits.specs.Register.{text}
use Rattle.h41_decimal.specs.Holding.{Holding, Number, Text, Other, holding_of, after_nulls}
use Rattle.h41_lines.specs.Characters.{characters_text}
use Rattle.h41_ram.specs.RegisterMap.{RegisterMap, alpha_of}
use Rattle.h41_show.specs.NumberText.{number_text}
use Rattle.h41_show.specs.declared.format.Format.{Format}

-- A number is shown in the display format, ALPHA data as its characters without leading nulls, and
-- any other content as the register's digits in hexadecimal, place 13 first.
abbrev pub holding_text : Format → List ℕ → Holding → List ℕ
holding_text format register (Number value) = number_text format value
holding_text format register (Text bytes) = characters_text bytes
holding_text format register Other = text register

-- The text of a register.
unfoldable pub register_text : Format → List ℕ → List ℕ
register_text format register = holding_text format register (holding_of register)

-- The text of ALPHA. Leading nulls are not shown.
unfoldable pub alpha_text : RegisterMap → List ℕ
alpha_text memory = characters_text (after_nulls (alpha_of memory))
