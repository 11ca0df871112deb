use Rattle.std.proofs.Common.{◌≡◌, ◌<◌, ◌≤◌, ◌^◌, length, take, drop}
use Rattle.h41_numbers.specs.NumberLines.{digits_in, number_from}
use Rattle.h41_numbers.specs.private.NumberReading.{read_count, read_number}
use Rattle.h41_numbers.proofs.number.first_digits.Given as goal

-- The rest of the text continues the digits so far to those of the whole text.
abbrev pub invariant-loop-character : goal.invariant-loop-character
invariant-loop-character l =
    (read_number l.most l.digits.0 l.digits.1.0 (drop l.character-index l.text) ≡ number_from 0 (take l.most (digits_in l.text)))
    × (read_count l.most l.digits.1.0 (drop l.character-index l.text) ≡ length (take l.most (digits_in l.text)))
    × (l.digits.1.0 ≤ l.most)
    × (l.digits.0 < 10 ^ l.digits.1.0)
