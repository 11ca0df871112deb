-- The memory of the HP-41: a finite map from the addresses that exist to registers of 14 digits,
-- and what the calculator stores in its status registers. The layout is that of HP's calculator.
-- The start state, the value of an address that does not exist, and the definition of sound memory
-- are this project's choices.
use Rattle.std.specs.Prelude.{◌≡◌, ℕ, ◌≤◌, ◌+◌, ◌-◌, ◌*◌, ◌/◌, ◌%◌, ◌^◌, Bool, ◌&&◌, List, [], ◌∷◌}
use Rattle.std.specs.Prelude.{◌++◌, map, length, slice_index, slice_index_or, slice_set, replicate}
use Rattle.std.specs.Prelude.{drop, nat_lt, nat_le, ◌==◌, if◌then◌else◌}
use Rattle.h41_digits.specs.Register.{byte_at}
use Rattle.h41_ram.specs.declared.status.StatusRegister.{StatusRegister}
use Rattle.h41_ram.specs.declared.status.StatusRegister.TheVariants as names

-- The registers in the order of their addresses.
pub record RegisterMap : Type 0 where
  -- The sixteen status registers, from address 000 on: T Z Y X L M N O P Q append a b c d e.
  pub status : List (List ℕ)
  -- Main memory, from address 0C0 on.
  pub main : List (List ℕ)

-- The memory of a calculator: sixteen status registers, and the given number of registers of main
-- memory, 64 to 320.
pub record IsMemory (registers : ℕ) (memory : RegisterMap) : Type 0 where
  pub status : length memory.status ≡ 16
  pub main : length memory.main ≡ registers
  pub least : 64 ≤ registers
  pub most : registers ≤ 320

-- The first address after the status registers.
abbrev pub status_end : ℕ
status_end = 0x010

-- The first address of main memory.
abbrev pub main_start : ℕ
main_start = 0x0C0

-- The first address after main memory.
abbrev pub top_of : RegisterMap → ℕ
top_of memory = main_start + length memory.main

-- A register of zeros.
abbrev pub zeros : List ℕ
zeros = replicate 14 0

-- The register at an address, or zeros if there is none.
abbrev pub register_at : RegisterMap → ℕ → List ℕ
register_at memory address =
    if nat_lt address status_end then slice_index_or memory.status address zeros
    else if nat_lt address main_start then zeros
    else slice_index_or memory.main (address - main_start) zeros

-- The memory after a write of the register at an address. If there is none, nothing changes.
abbrev pub with_register : RegisterMap → ℕ → List ℕ → RegisterMap
with_register memory address register =
    if nat_lt address status_end
    then record memory { status = slice_set memory.status address register }
    else if nat_lt address main_start then memory
    else record memory { main = slice_set memory.main (address - main_start) register }

-- The address of a status register.
abbrev pub address_of : StatusRegister → ℕ
address_of names.T = 0x000
address_of names.Z = 0x001
address_of names.Y = 0x002
address_of names.X = 0x003
address_of names.L = 0x004
address_of names.M = 0x005
address_of names.N = 0x006
address_of names.O = 0x007
address_of names.P = 0x008
address_of names.Q = 0x009
address_of names.Append = 0x00A
address_of names.A = 0x00B
address_of names.B = 0x00C
address_of names.C = 0x00D
address_of names.D = 0x00E
address_of names.E = 0x00F

-- The address of M, which contains the last seven bytes of ALPHA.
abbrev pub m_address : ℕ
m_address = address_of names.M

-- The address of N, which contains seven bytes of ALPHA.
abbrev pub n_address : ℕ
n_address = address_of names.N

-- The address of O, which contains seven bytes of ALPHA.
abbrev pub o_address : ℕ
o_address = address_of names.O

-- The address of P, whose right three bytes are the first of ALPHA.
abbrev pub p_address : ℕ
p_address = address_of names.P

-- The address of c, which contains the addresses of the parts of memory.
abbrev pub c_address : ℕ
c_address = address_of names.C

-- The address of d, which contains the flags.
abbrev pub d_address : ℕ
d_address = address_of names.D

-- The status register M.
abbrev pub m_of : RegisterMap → List ℕ
m_of memory = register_at memory m_address

-- The status register N.
abbrev pub n_of : RegisterMap → List ℕ
n_of memory = register_at memory n_address

-- The status register O.
abbrev pub o_of : RegisterMap → List ℕ
o_of memory = register_at memory o_address

-- The status register P.
abbrev pub p_of : RegisterMap → List ℕ
p_of memory = register_at memory p_address

-- The status register c.
abbrev pub c_of : RegisterMap → List ℕ
c_of memory = register_at memory c_address

-- The status register d.
abbrev pub d_of : RegisterMap → List ℕ
d_of memory = register_at memory d_address

-- A bit of a register. Bit 0 is the lowest bit of place 0.
abbrev pub bit_of : List ℕ → ℕ → Bool
bit_of register bit = slice_index register (bit / 4) / 2 ^ (bit % 4) % 2 == 1

-- A digit in which the bit of this weight, 1, 2, 4 or 8, is set or cleared.
abbrev pub digit_with : ℕ → ℕ → Bool → ℕ
digit_with digit weight on = digit - digit / weight % 2 * weight + (if on then weight else 0)

-- A register in which one bit is set or cleared.
abbrev pub with_bit : List ℕ → ℕ → Bool → List ℕ
with_bit register bit on =
    slice_set register (bit / 4) (digit_with (slice_index register (bit / 4)) (2 ^ (bit % 4)) on)

-- A flag. Flag 0 is the leftmost bit of register d, flag 55 the rightmost.
abbrev pub flag_of : RegisterMap → ℕ → Bool
flag_of memory flag = bit_of (d_of memory) (55 - flag)

-- The memory after a flag is set or cleared.
abbrev pub with_flag : RegisterMap → ℕ → Bool → RegisterMap
with_flag memory flag on = with_register memory d_address (with_bit (d_of memory) (55 - flag) on)

-- The seven bytes of a register, the leftmost first.
abbrev pub bytes_of : List ℕ → List ℕ
bytes_of register = map (byte_at register) (6 ∷ 5 ∷ 4 ∷ 3 ∷ 2 ∷ 1 ∷ 0 ∷ [])

-- The 24 bytes of ALPHA: the right three of P, and all of O, N and M.
abbrev pub alpha_of : RegisterMap → List ℕ
alpha_of memory =
    drop 4 (bytes_of (p_of memory)) ++ bytes_of (o_of memory) ++ bytes_of (n_of memory)
    ++ bytes_of (m_of memory)

-- The digits, place 0 first, of the bytes of a text with these indices, the leftmost byte first.
abbrev pub digits_from : List ℕ → List ℕ → List ℕ
digits_from text [] = []
digits_from text (index ∷ indices) =
    digits_from text indices ++ slice_index text index % 16 ∷ slice_index text index / 16 ∷ []

-- Seven consecutive indices.
abbrev pub seven_from : ℕ → List ℕ
seven_from first =
    first ∷ (first + 1) ∷ (first + 2) ∷ (first + 3) ∷ (first + 4) ∷ (first + 5) ∷ (first + 6) ∷ []

-- The memory after these 24 bytes are written to ALPHA. The left four bytes of P do not change.
abbrev pub with_alpha : RegisterMap → List ℕ → RegisterMap
with_alpha memory text =
    let m = with_register memory m_address (digits_from text (seven_from 17)) in
    let n = with_register m n_address (digits_from text (seven_from 10)) in
    let o = with_register n o_address (digits_from text (seven_from 3)) in
    with_register o p_address (digits_from text (0 ∷ 1 ∷ 2 ∷ []) ++ drop 6 (p_of memory))

-- The number that three digits of a register form, from a place upwards.
abbrev pub three_digits : List ℕ → ℕ → ℕ
three_digits register place =
    slice_index register place + 16 * slice_index register (place + 1)
    + 256 * slice_index register (place + 2)

-- The address of the register that contains .END., the last register of program memory.
abbrev pub end_of : RegisterMap → ℕ
end_of memory = three_digits (c_of memory) 0

-- The curtain: the address of data register R00, the first address after program memory.
abbrev pub curtain_of : RegisterMap → ℕ
curtain_of memory = three_digits (c_of memory) 3

-- The constant 169, which is part of the test for sound memory.
abbrev pub sound_constant : ℕ
sound_constant = 0x169

-- The number that register c contains in the place of this constant.
abbrev pub constant_of : RegisterMap → ℕ
constant_of memory = three_digits (c_of memory) 6

-- Whether the last three bytes of a register are an END that is the .END. of memory: the first of
-- them is C0 to CD; the third is below F0 (from F0 on the bytes would be a label) and has bit 5
-- set.
abbrev pub is_final_end : List ℕ → Bool
is_final_end register =
    nat_le 0xC0 (byte_at register 2) && nat_le (byte_at register 2) 0xCD
    && nat_lt (byte_at register 0) 0xF0 && bit_of register 5

-- Whether memory is sound: the constant is in its place, 0C0 ≤ end < curtain ≤ top, and the
-- register at the end contains .END.
abbrev pub is_sound : RegisterMap → Bool
is_sound memory =
    constant_of memory == sound_constant
    && (nat_le main_start (end_of memory)
    && nat_lt (end_of memory) (curtain_of memory)
    && nat_le (curtain_of memory) (top_of memory))
    && is_final_end (register_at memory (end_of memory))

-- A register with the three digits of a number below 1000 hexadecimal, from a place upwards.
abbrev pub with_three_places : List ℕ → ℕ → ℕ → List ℕ
with_three_places register place number =
    slice_set (slice_set (slice_set register place (number % 16)) (place + 1) (number / 16 % 16))
    (place + 2) (number / 256)

-- The number of data registers at the start: 100, or 17 if main memory has at most 100 registers.
abbrev pub start_size : ℕ → ℕ
start_size registers = if nat_lt registers 101 then 17 else 100

-- The curtain at the start. The empty program is .END. alone, in the register below the curtain.
abbrev pub start_curtain : ℕ → ℕ
start_curtain registers = main_start + registers - start_size registers

-- Register c at the start: the statistics registers at the curtain + 11, the constant 169, the
-- curtain, and the end directly below it.
abbrev pub start_c : ℕ → List ℕ
start_c curtain =
    with_three_places (with_three_places
    (with_three_places (with_three_places zeros 0 (curtain - 1)) 3 curtain) 6 sound_constant)
    11 (curtain + 11)

-- Register d at the start is 0000002C048000: flags 26, 28, 29, 37 (which makes the display digit 4)
-- and 40 (FIX) are set.
abbrev pub start_d : List ℕ
start_d = 0x0 ∷ 0x0 ∷ 0x0 ∷ 0x8 ∷ 0x4 ∷ 0x0 ∷ 0xC ∷ 0x2 ∷ 0x0 ∷ 0x0 ∷ 0x0 ∷ 0x0 ∷ 0x0 ∷ 0x0 ∷ []

-- The register of .END. alone: C0 00 20 in its last three bytes.
abbrev pub empty_program : List ℕ
empty_program = 0x0 ∷ 0x2 ∷ 0x0 ∷ 0x0 ∷ 0x0 ∷ 0xC ∷ replicate 8 0

-- The memory at the start, with this number of registers of main memory: all registers are zero
-- except c, d and that of .END.
abbrev pub start : ℕ → RegisterMap
start registers = record {
  status = replicate 13 zeros ++ start_c (start_curtain registers) ∷ start_d ∷ zeros ∷ [];
  main =
      slice_set (replicate registers zeros)
      (start_curtain registers - 1 - main_start) empty_program;
}
