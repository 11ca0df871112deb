-- The numbers of words, and the ranges of their operands.
use Rattle.std.specs.Prelude.{ℕ, ℤ, pos, negsuc}

-- The number of words: they have ten bits.
abbrev pub word_count : ℕ
word_count = 1024

-- The number of status bits.
abbrev pub status_bit_count : ℕ
status_bit_count = 14

-- The number of places of a register.
abbrev pub place_count : ℕ
place_count = 14

-- The number of values of a digit.
abbrev pub digit_count : ℕ
digit_count = 16

-- The number of registers of a block.
abbrev pub block_register_count : ℕ
block_register_count = 16

-- The least displacement of a short jump, -64.
abbrev pub least_displacement : ℤ
least_displacement = negsuc 63

-- The greatest displacement of a short jump, 63.
abbrev pub greatest_displacement : ℤ
greatest_displacement = pos 63
