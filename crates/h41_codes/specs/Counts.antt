-- How many values the parts of lines have. Each part is numbered from 0.
use Rattle.std.specs.Prelude.{ℕ}

-- Parameters of functions: registers, flags, labels or numbers of digits.
abbrev pub parameter_count : ℕ
parameter_count = 128

-- Labels with a spelling in one byte.
abbrev pub short_label_count : ℕ
short_label_count = 15

-- Registers with a spelling in one byte.
abbrev pub short_register_count : ℕ
short_register_count = 16

-- Modules.
abbrev pub module_count : ℕ
module_count = 32

-- Functions of a module.
abbrev pub entry_count : ℕ
entry_count = 64

-- Distances: twelve bits.
abbrev pub distance_count : ℕ
distance_count = 4096

-- Links: one of 14 first bytes, and a second byte.
abbrev pub link_count : ℕ
link_count = 3584

-- Status bits of an END: seven bits.
abbrev pub end_mark_count : ℕ
end_mark_count = 128

-- Status bits of .END.: seven bits, without those whose byte would be F0 or above.
abbrev pub final_mark_count : ℕ
final_mark_count = 112

-- The most characters of a text.
abbrev pub text_most : ℕ
text_most = 15

-- The most characters of the name of a label.
abbrev pub name_most : ℕ
name_most = 14

-- The most characters of a number.
abbrev pub number_most : ℕ
number_most = 16
