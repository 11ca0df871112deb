-- Decimal digits as they are written.
use Rattle.std.specs.Prelude.{ℕ, zero, suc, ◌+◌, ◌/◌, ◌%◌, Bool, ◌&&◌, ◌==◌, nat_lt, List, [], ◌∷◌}
use Rattle.std.specs.Prelude.{◌++◌, length, if◌then◌else◌}

-- The lowest decimal digits of a number, the lowest last.
abbrev pub digits_text : ℕ → ℕ → List ℕ
digits_text zero number = []
digits_text (suc count) number = digits_text count (number / 10) ++ (48 + number % 10) ∷ []

-- Whether the digits after a digit form one or more whole groups of three.
abbrev pub ends_group : List ℕ → Bool
ends_group behind = nat_lt 0 (length behind) && length behind % 3 == 0

-- Digits in groups of three, counted from the right, with a character between two groups.
abbrev pub grouped_digits : ℕ → List ℕ → List ℕ
grouped_digits mark [] = []
grouped_digits mark (digit ∷ behind) =
    if ends_group behind then digit ∷ mark ∷ grouped_digits mark behind
    else digit ∷ grouped_digits mark behind
