-- The words that read and write the memory and the pages.
use Rattle.std.specs.Prelude.{ℕ, ◌+◌, ◌*◌, ◌/◌, Option}
use Rattle.h41_pages.specs.PageMap.{PageMap, written}
use Rattle.h41_ram.specs.RegisterMap.{RegisterMap, register_at, with_register}
use Rattle.h41_nut.specs.declared.refusal.WordRefusal.{WordRefusal}
use Rattle.h41_nut.specs.PageWords.{word_at, system_refusal, word_or_zero, write_refusal}
use Rattle.h41_nut.specs.Processor.{Processor}
use Rattle.h41_nut.specs.RegisterWords.{with_c, word_in_c, address_in_c, with_word_in_c}

-- The address of a register in the selected block of 16.
abbrev pub block_address : ℕ → Processor → ℕ
block_address register s = s.selected / 16 * 16 + register

-- A processor with another selected address.
abbrev pub with_selected : ℕ → Processor → Processor
with_selected address s = record s { selected = address }

-- RAM SLCT selects the low ten bits of the digits 2 to 0 of C.
abbrev pub selecting_from_c : Processor → Processor
selecting_from_c s = with_selected (word_in_c s) s

-- WRIT n and READ n replace the low digit of the selected address by n (this project's choice).
abbrev pub selecting_in_block : ℕ → Processor → Processor
selecting_in_block register s = with_selected (block_address register s) s

-- READ DATA copies the selected register to C.
abbrev pub with_selected_in_c : RegisterMap → Processor → Processor
with_selected_in_c ram s = with_c (register_at ram s.selected) s

-- READ n selects a register of the block, and copies it to C.
abbrev pub with_register_in_c : RegisterMap → ℕ → Processor → Processor
with_register_in_c ram register s = with_selected_in_c ram (selecting_in_block register s)

-- WRIT DATA writes C to the register at an address.
abbrev pub with_c_at : RegisterMap → ℕ → Processor → RegisterMap
with_c_at ram address s = with_register ram address s.c

-- WRIT n writes C to a register of the selected block.
abbrev pub with_c_in_block : RegisterMap → ℕ → Processor → RegisterMap
with_c_in_block ram register s = with_c_at ram (block_address register s) s

-- FETCH S&X copies the word at the address in C to C, or 000 if the active bank of its page is not
-- plugged (this project's choice).
abbrev pub with_fetched_word : PageMap → Processor → Processor
with_fetched_word pages s = with_word_in_c (word_or_zero (word_at pages (address_in_c s))) s

-- FETCH S&X reads no word of the system's pages: SystemRom (08), with the address in C.
abbrev pub refusal_to_fetch : Processor → Option WordRefusal
refusal_to_fetch s = system_refusal (address_in_c s)

-- WROM writes no word that is not writable: ReadOnly (12), with the address in C.
abbrev pub refusal_to_write : PageMap → Processor → Option WordRefusal
refusal_to_write pages s = write_refusal pages (address_in_c s)

-- WROM writes the word in C at the address in C.
abbrev pub with_word_written : PageMap → Processor → PageMap
with_word_written pages s = written pages (address_in_c s) (word_in_c s)
