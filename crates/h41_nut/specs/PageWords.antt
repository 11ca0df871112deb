-- How the processor sees the pages: fetches and writes with its own refusals.
use Rattle.std.specs.Prelude.{ℕ, Option, Result, Ok, Err, option_map}
use Rattle.std.specs.Bool.{then_some}
use Rattle.h41_pages.specs.Addresses.{is_system}
use Rattle.h41_pages.specs.PageMap as pages
use Rattle.h41_pages.specs.declared.refusal.FetchRefusal.{FetchRefusal}
use Rattle.h41_pages.specs.declared.refusal.FetchRefusal.TheVariants as fetches
use Rattle.h41_pages.specs.declared.refusal.ReadOnly as writes
use Rattle.h41_nut.specs.declared.refusal.WordRefusal.{WordRefusal}
use Rattle.h41_nut.specs.declared.refusal.WordRefusal.TheVariants.{SystemRom, EmptyPage, ReadOnly}

-- A refusal of a fetch as one of the processor, with the same number and address.
abbrev pub of_fetch : FetchRefusal → WordRefusal
of_fetch (fetches.SystemRom address) = SystemRom address
of_fetch (fetches.EmptyPage address) = EmptyPage address

-- A refusal of a write as one of the processor, with the same number and address.
abbrev pub of_write : writes.ReadOnly → WordRefusal
of_write refusal = ReadOnly refusal.address

-- A word that was fetched, with the refusal as one of the processor.
abbrev pub with_own_refusal : Result ℕ FetchRefusal → Result ℕ WordRefusal
with_own_refusal (Ok word) = Ok word
with_own_refusal (Err refusal) = Err (of_fetch refusal)

-- The word at an address, or the reason why none is fetched.
abbrev pub word_at : pages.PageMap → ℕ → Result ℕ WordRefusal
word_at all address = with_own_refusal (pages.fetched all address)

-- The word that was fetched, or 000 if there is none.
abbrev pub word_or_zero : Result ℕ WordRefusal → ℕ
word_or_zero (Ok word) = word
word_or_zero (Err refusal) = 0

-- The system's pages are not supported: SystemRom (08).
abbrev pub system_refusal : ℕ → Option WordRefusal
system_refusal address = then_some (is_system address) (SystemRom address)

-- The reason why no word is written at an address.
abbrev pub write_refusal : pages.PageMap → ℕ → Option WordRefusal
write_refusal all address = option_map of_write (pages.write_refusal all address)
