-- The text of a register that is appended to ALPHA.
use Rattle.std.specs.Prelude.{◌≡◌, ◌≢◌, ℕ, Bool, true, false, List, Option, Some, None, ℤ, pos, slice_index, ◌==◌, ◌&&◌, if◌then◌else◌}
use Rattle.std.specs.Prelude.{refl}
use Rattle.std.proofs.Common.{arith, rules}
use Rattle.std.proofs.lemmas.Bool.Decides.{nat_tests}
use Rattle.h41_decimal.specs.Holding.{Text, holding, holding_of, number_in, parts_worth, text_in}
use Rattle.h41_rows.specs.RowEffects.{recall_text}
use Rattle.h41_show.specs.RegisterText.{holding_text, register_text}
use Rattle.h41_show.specs.declared.format.Format.{Format}

never : (a b : Bool) (other : Option ℤ) → (if a && b && false then Some (pos 0) else other) ≡ other
never true true other = refl
never a b other = refl

-- No number has the digit of ALPHA data in place 13.
no_number : (mantissa exponent : Option ℕ) → parts_worth mantissa exponent 1 ≡ None
no_number (Some m) (Some e) = never (m == 0) (e == 0) None
no_number (Some m) None = refl
no_number None e = refl

marked : (mantissa exponent : Option ℕ) (register : List ℕ) → slice_index register 13 ≡ 1
    → holding (parts_worth mantissa exponent (slice_index register 13)) register ≡ Text (text_in register)
marked mantissa exponent register place = search (rules, no_number)

-- The text of ALPHA data is its characters.
pub recall_text-bytes : (format : Format) (register : List ℕ) → slice_index register 13 ≡ 1
    → recall_text format register (holding_of register) ≡ text_in register
recall_text-bytes format register place = search (rules, marked)

not_one : (digit : ℕ) → digit ≢ 1 → (digit == 1) ≡ false
not_one digit other = grind (arith, nat_tests)

unmarked : (format : Format) (number : Option ℤ) (register : List ℕ) → (slice_index register 13 == 1) ≡ false
    → holding_text format register (holding number register) ≡ recall_text format register (holding number register)
unmarked format (Some value) register test = refl
unmarked format None register test = search rules

-- The text of other registers is as the display shows them.
pub recall_text-shown : (format : Format) (register : List ℕ) → slice_index register 13 ≢ 1
    → register_text format register ≡ recall_text format register (holding_of register)
unfolding register_text
recall_text-shown format register other = unmarked format (number_in register) register (not_one (slice_index register 13) other)
