-- The next address of the processor: the address after its word, and the addresses to which no step
-- may go.
use Rattle.std.specs.Prelude.{ℕ, Bool, false, Option}
use Rattle.std.specs.Bool.{then_some}
use Rattle.h41_nut.specs.Addresses.{address_after, is_closed}
use Rattle.h41_nut.specs.declared.refusal.WordRefusal.{WordRefusal}
use Rattle.h41_nut.specs.declared.refusal.WordRefusal.TheVariants.{SystemRom}
use Rattle.h41_nut.specs.Processor.{Processor}

-- The address after the word.
abbrev pub next_address : Processor → ℕ
next_address s = address_after s.pc 1

-- The address after an instruction of two words.
abbrev pub address_after_both : Processor → ℕ
address_after_both s = address_after s.pc 2

-- No step may go to the system's pages, except to the end of a function: SystemRom (08).
abbrev pub arrival_refusal : ℕ → Option WordRefusal
arrival_refusal address = then_some (is_closed address) (SystemRom address)

-- A word cannot continue if no step may go to the address after it.
abbrev pub refusal_to_go_on : Processor → Option WordRefusal
refusal_to_go_on s = arrival_refusal (next_address s)

-- A processor at an address, with a carry.
abbrev pub at_address : ℕ → Bool → Processor → Processor
at_address address carry s = record s { pc = address; carry = carry }

-- A processor after its word, with the carry clear.
abbrev pub gone_on : Processor → Processor
gone_on s = at_address (next_address s) false s
