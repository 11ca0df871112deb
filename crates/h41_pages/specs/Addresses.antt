-- The addresses of words: sixteen pages of 4,096 words. It is this project's choice which pages
-- belong to the system, and so are not supported.
use Rattle.std.specs.Prelude.{ℕ, ◌/◌, ◌%◌, ◌-◌, Bool, ◌&&◌, nat_lt, nat_le}
use Rattle.h41_words.specs.Counts.{word_count}

-- The number of pages.
abbrev pub page_count : ℕ
page_count = 16

-- The number of words of a page.
abbrev pub page_size : ℕ
page_size = 0x1000

-- The first page that can be plugged. Those below it belong to the system.
abbrev pub first_page : ℕ
first_page = 4

-- The last page that can be plugged.
abbrev pub last_page : ℕ
last_page = 15

-- A module's page can be plugged here: in pages 4 to F. Pages 0 to 3 are the calculator's own.
abbrev pub is_pluggable : ℕ → Bool
is_pluggable page = nat_le first_page page && nat_le page last_page

-- The first address of the pages that can be plugged.
abbrev pub first_address : ℕ
first_address = 0x4000

-- The page of an address: its first hexadecimal digit.
abbrev pub page_of : ℕ → ℕ
page_of address = address / page_size

-- The offset of an address in its page: its other three hexadecimal digits.
abbrev pub offset_of : ℕ → ℕ
offset_of address = address % page_size

-- Whether an address is in the system's pages.
abbrev pub is_system : ℕ → Bool
is_system address = nat_lt address first_address

-- The greatest word.
abbrev pub last_word : ℕ
last_word = word_count - 1
