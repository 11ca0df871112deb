-- Three tables of bits that repeat the list of breakpoints, so that most steps need not search the
-- list. Readers of the public contracts can skip this file.
use Rattle.std.specs.Prelude.{◌≡◌, ◌≢◌, ◌<◌, ℕ, ◌/◌, ◌%◌, ◌==◌, Bool, List, map, Option, Some}
use Rattle.std.specs.Prelude.{slice_get, slice_index, slice_set}
use Rattle.std.specs.Int.{bit_at}
use Rattle.std.specs.List.{range_with_len}
use Rattle.h41_breakpoints.specs.Breakpoints.{is_set}
use Rattle.h41_breakpoints.specs.private.Members.{set_of}
use Rattle.h41_breakpoints.specs.declared.location.Location.{Location}
use Rattle.h41_breakpoints.specs.declared.location.Location.TheVariants.{Line, Word}
use Rattle.h41_positions.specs.declared.position.Position.TheVariants.{Memory, Page}

-- Bit n of a list of numbers with 64 bits each, counted from the lowest bit of the first number.
abbrev pub bit_of : List ℕ → ℕ → Bool
bit_of numbers n = bit_at (slice_index numbers (n / 64)) (n % 64) == 1

-- The first bits of such a list.
unfoldable pub bits_of : ℕ → List ℕ → List Bool
bits_of count numbers = map (bit_of numbers) (range_with_len 0 count)

-- A number in which one bit is changed to this value, and every other bit is unchanged.
pub record IsWithBit (number place : ℕ) (bit : Bool) (changed : ℕ) : Type 0 where
  pub here : (bit_at changed place == 1) ≡ bit
  pub others : (i : ℕ) → i < 64 → i ≢ place → bit_at changed i ≡ bit_at number i

-- The three tables: a bit for each word's address, one for each of the first positions in program
-- memory, and one for each position in a page.
pub record BitTables : Type 0 where
  pub words : List Bool
  pub lines : List Bool
  pub page_lines : List Bool

-- The bit of a location. Positions in program memory after the end of their table have none.
abbrev pub location_bit : BitTables → Location → Option Bool
location_bit tables (Word address) = slice_get tables.words address
location_bit tables (Line (Memory byte)) = slice_get tables.lines byte
location_bit tables (Line (Page address)) = slice_get tables.page_lines address

-- The tables after the bit of a location is changed.
abbrev pub with_location_bit : BitTables → Location → Bool → BitTables
with_location_bit tables (Word address) bit =
    record tables { words = slice_set tables.words address bit }
with_location_bit tables (Line (Memory byte)) bit =
    record tables { lines = slice_set tables.lines byte bit }
with_location_bit tables (Line (Page address)) bit =
    record tables { page_lines = slice_set tables.page_lines address bit }

-- Each bit says whether its location is in the list.
abbrev pub AreTablesOf : List Location → BitTables → Type 0
AreTablesOf members tables =
    (q : Location) (bit : Bool) → location_bit tables q ≡ Some bit → bit ≡ is_set (set_of members) q
