-- The text of a register, from its content.
use Rattle.std.specs.Prelude.{◌≡◌, ◌≢◌, ℕ, List, Option, Some, None, ℤ, slice_index, ◌==◌, if◌then◌else◌}
use Rattle.std.proofs.Common.{ap, arith, rules}
use Rattle.std.proofs.lemmas.Bool.Decides.{nat_tests}
use Rattle.h41_digits.specs.Register.{text}
use Rattle.h41_decimal.specs.Holding.{Holding, Number, Text, Other, holding, holding_of, text_in, worth}
use Rattle.h41_show.specs.NumberText.{number_text}
use Rattle.h41_lines.specs.Characters.{characters_text}
use Rattle.h41_show.specs.RegisterText.{holding_text, register_text}
use Rattle.h41_show.specs.declared.format.Format.{Format}

-- A content with a value is the number with this value.
held_number : (held : Holding) (value : ℤ) → worth held ≡ Some value → held ≡ Number value
held_number held value e = grind arith

pub register_text-number : (format : Format) (register : List ℕ) (value : ℤ) → worth (holding_of register) ≡ Some value
    → register_text format register ≡ number_text format value
unfolding register_text
register_text-number format register value e = ap (holding_text format register) (held_number (holding_of register) value e)

-- The content of a register without a number depends on its place 13.
not_number : (number : Option ℤ) (register : List ℕ) → worth (holding number register) ≡ None
    → holding number register ≡ (if slice_index register 13 == 1 then Text (text_in register) else Other)
not_number number register e = grind arith

pub register_text-bytes : (format : Format) (register : List ℕ) → worth (holding_of register) ≡ None → slice_index register 13 ≡ 1
    → register_text format register ≡ characters_text (text_in register)
unfolding register_text
register_text-bytes format register e is = search (rules, nat_tests, not_number)

pub register_text-digits : (format : Format) (register : List ℕ) → worth (holding_of register) ≡ None → slice_index register 13 ≢ 1
    → register_text format register ≡ text register
unfolding register_text
register_text-digits format register e other = search (rules, nat_tests, not_number)
