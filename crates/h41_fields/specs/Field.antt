-- The fields of a register: the places on which a word of the Nut processor works, under the names
-- of this project's table of mnemonics.
use Rattle.std.specs.Prelude.{ℕ, ◌+◌, ◌-◌, Bool, true, false, ◌&&◌, ◌||◌, List, [], ◌∷◌, length}
use Rattle.std.specs.Prelude.{slice_index, filter, nat_lt, nat_le, ◌==◌}
use Rattle.std.specs.List.{range_with_len}
use Rattle.h41_fields.specs.declared.field.Field.{Field}
use Rattle.h41_fields.specs.declared.field.Field.TheVariants.{AtPointer, SignAndExponent, ToPointer}
use Rattle.h41_fields.specs.declared.field.Field.TheVariants.{All, PToQ, ExponentSign, Mantissa}
use Rattle.h41_fields.specs.declared.field.Field.TheVariants.{MantissaSign}
use Rattle.h41_fields.specs.declared.field.Pointer.{Pointer}
use Rattle.h41_fields.specs.declared.field.Pointer.TheVariants.{P, Q}

-- The place that the active pointer names; p and q are the places that P and Q name.
abbrev pub active_place : ℕ → ℕ → Pointer → ℕ
active_place p q P = p
active_place p q Q = q

-- Whether a place belongs to a field; p and q are the places that P and Q name.
abbrev pub is_place : Field → ℕ → ℕ → Pointer → ℕ → Bool
-- @R: the active pointer's place.
is_place AtPointer p q active place = place == active_place p q active
-- S&X: the exponent and its sign, places 0 to 2.
is_place SignAndExponent p q active place = nat_le place 2
-- R<: the places up to the active pointer's place, this included.
is_place ToPointer p q active place = nat_le place (active_place p q active)
-- ALL: every place.
is_place All p q active place = true
-- P-Q: from P's place to Q's place. If P is above Q, from P's place to the last (this project's
-- choice).
is_place PToQ p q active place = nat_le p place && (nat_le place q || nat_lt q p)
-- XS: the exponent's sign, place 2.
is_place ExponentSign p q active place = place == 2
-- M: the mantissa, places 3 to 12.
is_place Mantissa p q active place = nat_le 3 place && nat_le place 12
-- MS: the mantissa's sign, place 13.
is_place MantissaSign p q active place = place == 13

-- Whether the places of a field depend on the pointers.
abbrev pub is_pointed : Field → Bool
is_pointed AtPointer = true
is_pointed ToPointer = true
is_pointed PToQ = true
is_pointed field = false

-- The places of a register, beginning with the rightmost.
unfoldable pub register_places : List ℕ
register_places = 0 ∷ 1 ∷ 2 ∷ 3 ∷ 4 ∷ 5 ∷ 6 ∷ 7 ∷ 8 ∷ 9 ∷ 10 ∷ 11 ∷ 12 ∷ 13 ∷ []

-- The places of a field, in ascending order.
unfoldable pub places : Field → ℕ → ℕ → Pointer → List ℕ
places field p q active = filter (is_place field p q active) register_places

-- The first place of a field, which is its lowest.
unfoldable pub first_place : Field → ℕ → ℕ → Pointer → ℕ
first_place field p q active = slice_index (places field p q active) 0

-- The last place of a field, which is its highest.
unfoldable pub last_place : Field → ℕ → ℕ → Pointer → ℕ
last_place field p q active =
    slice_index (places field p q active) (length (places field p q active) - 1)

-- All numbers from lo to hi.
unfoldable pub from_to : ℕ → ℕ → List ℕ
from_to lo hi = range_with_len lo (hi + 1 - lo)
