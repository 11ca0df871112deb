-- The second word of a jump by address: four times the high byte of the address, plus the number of
-- the jump.
use Rattle.std.specs.Prelude.{◌≡◌, ℕ, ◌+◌, ◌*◌, ◌/◌, ◌%◌, List, [], ◌∷◌, slice_index_or}
use Rattle.h41_words.specs.declared.rows.Condition.{Condition}
use Rattle.h41_words.specs.declared.rows.Condition.TheVariants.{NoCarry, Carry}
use Rattle.h41_words.specs.declared.second_word.LongJumpKind.{LongJumpKind}
use Rattle.h41_words.specs.declared.second_word.LongJumpKind.TheVariants.{Execute, Go}
use Rattle.h41_words.specs.declared.second_word.SecondWord.{SecondWord}

-- The four jumps in the order of their numbers: ?NC XQ, ?C XQ, ?NC GO and ?C GO.
abbrev pub long_jumps : List (Condition × LongJumpKind)
long_jumps = (NoCarry, Execute) ∷ (Carry, Execute) ∷ (NoCarry, Go) ∷ (Carry, Go) ∷ []

-- The number of each of the four jumps.
abbrev pub long_jump_number : Condition → LongJumpKind → ℕ
long_jump_number NoCarry Execute = 0
long_jump_number Carry Execute = 1
long_jump_number NoCarry Go = 2
long_jump_number Carry Go = 3

-- The meaning of a word as a second word.
abbrev pub second_of : ℕ → SecondWord
second_of word =
    let jump = slice_index_or long_jumps (word % 4) (NoCarry, Execute) in
    record { condition = jump.0; kind = jump.1; high_byte = word / 4 }

-- The number of the second word with a meaning.
abbrev pub second_number_of : SecondWord → ℕ
second_number_of second = second.high_byte * 4 + long_jump_number second.condition second.kind

-- The second word round trip: a word is determined by its meaning as a second word.
abbrev pub SaidByWord : Type 0
SaidByWord = (word : ℕ) → second_number_of (second_of word) ≡ word

-- Each meaning of a second word is that of its word.
abbrev pub WordOfSecond : Type 0
WordOfSecond = (second : SecondWord) → second_of (second_number_of second) ≡ second
