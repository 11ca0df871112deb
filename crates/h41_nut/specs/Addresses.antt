-- The addresses of words, as the processor uses them. It is this project's choice which of them are
-- closed.
use Rattle.std.specs.Prelude.{ℕ, suc, ◌+◌, ◌-◌, ◌%◌, ℤ, pos, negsuc, Bool, not, ◌&&◌, ◌==◌}
use Rattle.h41_pages.specs.Addresses.{is_system}

-- The number of addresses.
abbrev pub address_count : ℕ
address_count = 0x10000

-- The address at which a function ends, to which its first return jumps.
abbrev pub end_of_function : ℕ
end_of_function = 0x00F0

-- The address a number of words after another. The address after FFFF is 0000.
abbrev pub address_after : ℕ → ℕ → ℕ
address_after address count = (address + count) % address_count

-- The address at a displacement from another.
abbrev pub displaced_address : ℕ → ℤ → ℕ
displaced_address address (pos words) = (address + words) % address_count
displaced_address address (negsuc words) = (address + address_count - suc words) % address_count

-- Whether an address is closed: no step may go to the system's pages, except to the end of a
-- function.
abbrev pub is_closed : ℕ → Bool
is_closed address = is_system address && not (address == end_of_function)
