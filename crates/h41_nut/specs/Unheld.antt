-- The words that are refused because of what they are: those that are no instruction, and those of
-- peripherals.
use Rattle.std.specs.Prelude.{ℕ, ◌%◌, Bool, not, ◌&&◌, ◌||◌, nat_le, ◌==◌, if◌then◌else◌, Option}
use Rattle.std.specs.Bool.{then_some}
use Rattle.h41_digits.specs.Register.{byte_at}
use Rattle.h41_nut.specs.declared.refusal.WordRefusal.{WordRefusal}
use Rattle.h41_nut.specs.declared.refusal.WordRefusal.TheVariants.{UndefinedWord, WordNotInProfile}
use Rattle.h41_nut.specs.declared.refusal.WordRefusal.TheVariants.{PeripheralNotHeld}
use Rattle.h41_nut.specs.Processor.{Processor}

-- Whether a word that is no instruction is one of a peripheral: its six low bits are 24 or 2C, or
-- it is 200 to 3C0 and its six low bits are 00.
abbrev pub is_peripheral : ℕ → Bool
is_peripheral word = word % 64 == 0x24 || word % 64 == 0x2C || (word % 64 == 0 && nat_le 0x200 word)

-- The reason why a word that is no instruction is refused: WordNotInProfile (07) for 3FC,
-- PeripheralNotHeld (10) for words of peripherals, UndefinedWord (06) for any other.
abbrev pub constant_refusal : ℕ → ℕ → WordRefusal
constant_refusal word address =
    if word == 0x3FC then WordNotInProfile address
    else if is_peripheral word then PeripheralNotHeld address
    else UndefinedWord address

-- PRPH SLCT is refused as PeripheralNotHeld (10) if the digits 1 and 0 of C name a peripheral, that
-- is, if they are not both zero.
abbrev pub peripheral_refusal : Processor → Option WordRefusal
peripheral_refusal s = then_some (not (byte_at s.c 0 == 0)) (PeripheralNotHeld s.pc)
