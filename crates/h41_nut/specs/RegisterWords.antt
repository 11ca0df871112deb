-- The words that load, copy and rotate registers. Those of G and of the key (C=KEY, GOTO KEY, ?KEY,
-- CLRKEY) are this project's choice.
use Rattle.std.specs.Prelude.{ℕ, Bool, ◌+◌, ◌*◌, ◌/◌, ◌%◌, List, [], ◌∷◌, map, slice_index}
use Rattle.std.specs.Prelude.{slice_set}
use Rattle.std.specs.Int.RustNames.{bit_and, bit_or}
use Rattle.std.specs.List.{range_with_len}
use Rattle.h41_digits.specs.Register.{byte_at, set_byte}
use Rattle.h41_words.specs.declared.rows.RegisterTransfer.{RegisterTransfer}
use Rattle.h41_words.specs.declared.rows.RegisterTransfer.TheVariants.{CToG, GToC, ExchangeCG, CToM}
use Rattle.h41_words.specs.declared.rows.RegisterTransfer.TheVariants.{MToC, ExchangeCM, StatusToT}
use Rattle.h41_words.specs.declared.rows.RegisterTransfer.TheVariants.{TToStatus, ExchangeStatusT}
use Rattle.h41_words.specs.declared.rows.RegisterTransfer.TheVariants.{CToStatus, StatusToC}
use Rattle.h41_words.specs.declared.rows.RegisterTransfer.TheVariants.{ExchangeCStatus, CToN, NToC}
use Rattle.h41_words.specs.declared.rows.RegisterTransfer.TheVariants.{ExchangeCN}
use Rattle.h41_ram.specs.RegisterMap.{zeros}
use Rattle.h41_words.specs.Counts.{word_count}
use Rattle.h41_nut.specs.declared.base.Base.{Base}
use Rattle.h41_nut.specs.Jumps.{newest_return, with_return_popped, with_return_pushed}
use Rattle.h41_nut.specs.Processor.{Processor}
use Rattle.h41_nut.specs.Pointers.{pointer_of, with_pointer_down, place_above, status_byte}
use Rattle.h41_nut.specs.Pointers.{with_status_byte}

-- A register with these digits from a place upwards, the lowest first.
abbrev pub with_digits : List ℕ → ℕ → List ℕ → List ℕ
with_digits register place [] = register
with_digits register place (digit ∷ digits) =
    with_digits (slice_set register place digit) (place + 1) digits

-- The digits of a byte, the lowest first.
abbrev pub byte_digits : ℕ → List ℕ
byte_digits byte = byte % 16 ∷ byte / 16 ∷ []

-- The digits of a word, the lowest first.
abbrev pub word_digits : ℕ → List ℕ
word_digits word = word % 16 ∷ word / 16 % 16 ∷ word / 256 ∷ []

-- The digits of an address, the lowest first.
abbrev pub address_digits : ℕ → List ℕ
address_digits address = address % 16 ∷ address / 16 % 16 ∷ address / 256 % 16 ∷ address / 4096 ∷ []

-- The word in C: the low ten bits of its digits 2 to 0.
abbrev pub word_in_c : Processor → ℕ
word_in_c s = (slice_index s.c 0 + 16 * slice_index s.c 1 + 256 * slice_index s.c 2) % word_count

-- The address in C: its digits 6 to 3.
abbrev pub address_in_c : Processor → ℕ
address_in_c s =
    slice_index s.c 3 + 16 * slice_index s.c 4 + 256 * slice_index s.c 5 + 4096 * slice_index s.c 6

-- A processor with another C.
abbrev pub with_c : List ℕ → Processor → Processor
with_c register s = record s { c = register }

-- A processor with a word in the digits 2 to 0 of C.
abbrev pub with_word_in_c : ℕ → Processor → Processor
with_word_in_c word s = with_c (with_digits s.c 0 (word_digits word)) s

-- A processor with an address in the digits 6 to 3 of C.
abbrev pub with_address_in_c : ℕ → Processor → Processor
with_address_in_c address s = with_c (with_digits s.c 3 (address_digits address)) s

-- PUSH ADR makes the address in C the newest return address.
abbrev pub with_address_pushed : Processor → Processor
with_address_pushed s = with_return_pushed (address_in_c s) s

-- POP ADR copies the newest return address to C and removes it.
abbrev pub with_address_popped : Processor → Processor
with_address_popped s = with_return_popped (with_address_in_c (newest_return s) s)

-- C=KEY copies a key's code to the digits 4 and 3 of C.
abbrev pub with_key_in_c : ℕ → Processor → Processor
with_key_in_c key s = with_c (with_digits s.c 3 (byte_digits key)) s

-- LD@R n writes a digit to C at the pointer's place, and moves the pointer down one place.
abbrev pub with_digit_loaded : ℕ → Processor → Processor
with_digit_loaded digit s = with_pointer_down (with_c (slice_set s.c (pointer_of s) digit) s)

-- The byte of C at the pointer: its low digit is at the pointer's place, its high digit one place
-- above, which is place 0 for place 13.
abbrev pub byte_at_pointer : Processor → ℕ
byte_at_pointer s =
    slice_index s.c (pointer_of s) + 16 * slice_index s.c (place_above (pointer_of s))

-- A processor with another byte at the pointer in C.
abbrev pub with_byte_at_pointer : ℕ → Processor → Processor
with_byte_at_pointer byte s =
    with_c
    (slice_set (slice_set s.c (pointer_of s) (byte % 16)) (place_above (pointer_of s)) (byte / 16))
    s

-- The copies and exchanges of whole registers. Of the status bits, S7 to S0 take part, and then the
-- digits 1 and 0 of C.
abbrev pub after_transfer : RegisterTransfer → Processor → Processor
after_transfer CToG s = record s { g = byte_at_pointer s }
after_transfer GToC s = with_byte_at_pointer s.g s
after_transfer ExchangeCG s = record (with_byte_at_pointer s.g s) { g = byte_at_pointer s }
after_transfer CToM s = record s { m = s.c }
after_transfer MToC s = record s { c = s.m }
after_transfer ExchangeCM s = record s { c = s.m; m = s.c }
after_transfer CToN s = record s { n = s.c }
after_transfer NToC s = record s { c = s.n }
after_transfer ExchangeCN s = record s { c = s.n; n = s.c }
after_transfer StatusToT s = record s { t = status_byte s }
after_transfer TToStatus s = with_status_byte s.t s
after_transfer ExchangeStatusT s = record (with_status_byte s.t s) { t = status_byte s }
after_transfer CToStatus s = with_status_byte (byte_at s.c 0) s
after_transfer StatusToC s = record s { c = set_byte s.c 0 (status_byte s) }
after_transfer ExchangeCStatus s =
    record (with_status_byte (byte_at s.c 0) s) { c = set_byte s.c 0 (status_byte s) }

-- A register with a digit for each of its 14 places.
abbrev pub by_place : (ℕ → ℕ) → List ℕ
by_place digit = map digit (range_with_len 0 14)

-- A register rotated right: the digits that leave at the right enter at the left.
abbrev pub rotated_register : List ℕ → ℕ → List ℕ
rotated_register register digits = by_place (λ place. slice_index register ((place + digits) % 14))

-- RCR n rotates C right.
abbrev pub with_c_rotated : ℕ → Processor → Processor
with_c_rotated digits s = with_c (rotated_register s.c digits) s

-- The bits that at least one of two registers has.
abbrev pub digits_or : List ℕ → List ℕ → List ℕ
digits_or x y = by_place (λ place. bit_or (slice_index x place) (slice_index y place))

-- The bits that both of two registers have.
abbrev pub digits_and : List ℕ → List ℕ → List ℕ
digits_and x y = by_place (λ place. bit_and (slice_index x place) (slice_index y place))

-- C=C OR A.
abbrev pub with_c_or_a : Processor → Processor
with_c_or_a s = with_c (digits_or s.c s.a) s

-- C=C AND A.
abbrev pub with_c_and_a : Processor → Processor
with_c_and_a s = with_c (digits_and s.c s.a) s

-- CLRABC clears A, B and C.
abbrev pub with_abc_clear : Processor → Processor
with_abc_clear s = record s { a = zeros; b = zeros; c = zeros }

-- SETHEX and SETDEC select the base of arithmetic.
abbrev pub with_base : Base → Processor → Processor
with_base base s = record s { base = base }

-- DISOFF and DISTOG turn the display on or off.
abbrev pub with_display : Bool → Processor → Processor
with_display on s = record s { display = on }
