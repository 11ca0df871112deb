-- The registers on which lines work: those of the stack, LAST X, and the one that the line names.
use Rattle.std.specs.Prelude.{ℕ, Bool, List, is_some, ℤ, pos}
use Rattle.std.specs.List.{list_all}
use Rattle.std.specs.Option.{option_map_or}
use Rattle.h41_decimal.specs.Holding.{holding_of, number_in, worth}
use Rattle.h41_ram.specs.RegisterMap.{RegisterMap, address_of, register_at}
use Rattle.h41_ram.specs.declared.status.StatusRegister.TheVariants as names

-- A place is a register of the stack, LAST X, or the register that the line names.
pub data RowPlace : Type 0 where
  T : RowPlace
  Z : RowPlace
  Y : RowPlace
  X : RowPlace
  LastX : RowPlace
  -- the register that the line names
  Named : RowPlace

-- The address of a place, given the address of the register that the line names.
abbrev pub place_address : ℕ → RowPlace → ℕ
place_address named T = address_of names.T
place_address named Z = address_of names.Z
place_address named Y = address_of names.Y
place_address named X = address_of names.X
place_address named LastX = address_of names.L
place_address named Named = named

-- The register in a place.
abbrev pub register_in : RegisterMap → ℕ → RowPlace → List ℕ
register_in memory named place = register_at memory (place_address named place)

-- The number in a place, in units, or zero if it contains none. No line uses that zero.
abbrev pub amount_in : RegisterMap → ℕ → RowPlace → ℤ
amount_in memory named place =
    option_map_or (λ number. number) (worth (holding_of (register_in memory named place))) (pos 0)

-- Whether each place contains a number.
abbrev pub are_numbers : RegisterMap → ℕ → List RowPlace → Bool
are_numbers memory named places =
    list_all (λ place. is_some (number_in (register_in memory named place))) places
