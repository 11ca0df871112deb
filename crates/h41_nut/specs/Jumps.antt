-- The targets of jumps and returns, and the four return addresses. An empty stack gives 0000, and a
-- fifth address replaces the oldest (this project's choice).
use Rattle.std.specs.Prelude.{ℕ, ◌+◌, ◌*◌, ◌/◌, ℤ, Bool, true, false, not, [], ◌∷◌, ◌++◌}
use Rattle.std.specs.Prelude.{slice_index, take, drop, ◌&&◌, if◌then◌else◌}
use Rattle.h41_words.specs.declared.rows.Condition.{Condition}
use Rattle.h41_words.specs.declared.rows.Condition.TheVariants.{NoCarry, Carry}
use Rattle.h41_words.specs.declared.second_word.LongJumpKind.{LongJumpKind}
use Rattle.h41_words.specs.declared.second_word.LongJumpKind.TheVariants.{Execute, Go}
use Rattle.h41_words.specs.declared.second_word.SecondWord.{SecondWord}
use Rattle.h41_nut.specs.Addresses.{displaced_address}
use Rattle.h41_nut.specs.Arrivals.{next_address, address_after_both}
use Rattle.h41_nut.specs.Processor.{Processor}

-- Whether a jump or a return is taken at this carry.
abbrev pub is_taken : Condition → Bool → Bool
is_taken NoCarry carry = not carry
is_taken Carry carry = carry

-- The newest return address.
abbrev pub newest_return : Processor → ℕ
newest_return s = slice_index s.returns 0

-- The return addresses after the newest was removed.
abbrev pub with_return_popped : Processor → Processor
with_return_popped s = record s { returns = drop 1 s.returns ++ 0 ∷ [] }

-- The return addresses after another was added as the newest.
abbrev pub with_return_pushed : ℕ → Processor → Processor
with_return_pushed address s = record s { returns = address ∷ take 3 s.returns }

-- Whether a jump by address pushes the address after it: XQ does, GO does not.
abbrev pub is_execute : LongJumpKind → Bool
is_execute Execute = true
is_execute Go = false

-- The next address after a jump by address: the address in both words if it is taken.
abbrev pub jump_target : ℕ → SecondWord → Processor → ℕ
jump_target low_byte second s =
    if is_taken second.condition s.carry then second.high_byte * 256 + low_byte
    else address_after_both s

-- The processor after a jump by address: XQ, if it is taken, pushes the address after both words.
abbrev pub jump_change : SecondWord → Processor → Processor
jump_change second s =
    if is_taken second.condition s.carry && is_execute second.kind
    then with_return_pushed (address_after_both s) s
    else s

-- The next address after a short jump: if it is taken, it jumps by its displacement from the word's
-- own address.
abbrev pub short_jump_target : Condition → ℤ → Processor → ℕ
short_jump_target condition displacement s =
    if is_taken condition s.carry then displaced_address s.pc displacement else next_address s

-- The next address after a return: if it is taken, it jumps to the newest return address.
abbrev pub return_target : Condition → Processor → ℕ
return_target condition s = if is_taken condition s.carry then newest_return s else next_address s

-- The processor after a return: if it is taken, it removes the newest return address.
abbrev pub return_change : Condition → Processor → Processor
return_change condition s = if is_taken condition s.carry then with_return_popped s else s

-- GOTO KEY: the next address with its low byte replaced by the key's code.
abbrev pub key_target : ℕ → Processor → ℕ
key_target key s = next_address s / 256 * 256 + key
