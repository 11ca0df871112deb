-- Consequences of the definition of a register alone.
use Rattle.std.specs.Prelude.{◌≡◌, ℕ, ◌+◌, ◌*◌, ◌<◌, List, length}
use Rattle.h41_digits.specs.Register.{IsRegister, value, text, hexadecimal_text, byte_at, set_byte}

-- Two registers with the same number of places that hold the same number are equal.
abbrev pub ValueIsInjective : Type 0
ValueIsInjective =
    (places : ℕ) (x y : List ℕ) → IsRegister places x → IsRegister places y → value x ≡ value y
    → x ≡ y

-- The text of a register is the text of its number, with one digit for each place.
abbrev pub TextTellsValue : Type 0
TextTellsValue =
    (places : ℕ) (digits : List ℕ) → IsRegister places digits
    → text digits ≡ hexadecimal_text places (value digits)

-- A byte that was written is read back.
abbrev pub SetByteIsRead : Type 0
SetByteIsRead =
    (digits : List ℕ) (k byte : ℕ) → 2 * k + 1 < length digits
    → byte_at (set_byte digits k byte) k ≡ byte
