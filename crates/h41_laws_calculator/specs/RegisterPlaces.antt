-- A row can name the place of every register, so what is promised for places is promised for each
-- register, and for any two.
use Rattle.std.specs.Prelude.{◌≡◌, ℕ}
use Rattle.h41_ram.specs.NamedFlags.{range_ignore}
use Rattle.h41_ram.specs.RegisterMap.{RegisterMap, flag_of, register_at}
use Rattle.h41_rows.specs.Places.{RowPlace, place_address, register_in}

-- Each address is that of a place.
abbrev pub AddressHasPlace : Type 0
AddressHasPlace =
    (address : ℕ) → (named : ℕ) × (place : RowPlace) × (place_address named place ≡ address)

-- A memory with the same flag 24 has the two registers in places of their own.
pub record HasBoth (memory : RegisterMap) (first second : ℕ) : Type 0 where
  pub other : RegisterMap
  pub named : ℕ
  pub a : RowPlace
  pub b : RowPlace
  pub one : register_in other named a ≡ register_at memory first
  pub two : register_in other named b ≡ register_at memory second
  pub flag : flag_of other range_ignore ≡ flag_of memory range_ignore

-- Any two registers of a memory, which may be one, have places of their own in a memory with the
-- same flag 24.
abbrev pub TwoRegistersHavePlaces : Type 0
TwoRegistersHavePlaces = (memory : RegisterMap) (first second : ℕ) → HasBoth memory first second
