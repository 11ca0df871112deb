-- What is shown of the processor and of memory. The form is this project's choice.
use Rattle.std.specs.Prelude.{ℕ, Bool, List, ◌++◌, map, filter, slice_index, if◌then◌else◌, codes}
use Rattle.std.specs.List.{join_with_byte, range_with_len}
use Rattle.h41_digits.specs.Register.{text, hexadecimal_text}
use Rattle.h41_fields.specs.declared.field.Pointer.{Pointer}
use Rattle.h41_fields.specs.declared.field.Pointer.TheVariants.{P, Q}
use Rattle.h41_lines.specs.Characters.{two_digits}
use Rattle.h41_nut.specs.Processor.{Processor}
use Rattle.h41_nut.specs.declared.base.Base.{Base}
use Rattle.h41_nut.specs.declared.base.Base.TheVariants.{Hexadecimal, Decimal}
use Rattle.h41_nut.specs.declared.keys.Keys.{Keys}
use Rattle.h41_ram.specs.RegisterMap.{RegisterMap, flag_of, register_at}

-- A bit as 0 or 1.
abbrev pub bit_text : Bool → List ℕ
bit_text bit = if bit then codes "1" else codes "0"

-- The name of a pointer.
abbrev pub pointer_text : Pointer → List ℕ
pointer_text P = codes "P"
pointer_text Q = codes "Q"

-- The name of an arithmetic mode.
abbrev pub base_text : Base → List ℕ
base_text Hexadecimal = codes "HEX"
base_text Decimal = codes "DEC"

-- The line of the registers A, B and C, each with the highest digit first. All numbers of the
-- processor are printed in hexadecimal.
unfoldable pub registers_line : Processor → List ℕ
registers_line s =
    codes "A=" ++ text s.a ++ codes " B=" ++ text s.b ++ codes " C=" ++ text s.c ++ codes "\n"

-- The line of M and N.
unfoldable pub memories_line : Processor → List ℕ
memories_line s = codes "M=" ++ text s.m ++ codes " N=" ++ text s.n ++ codes "\n"

-- The line of G, T, the status bits and the pointers.
unfoldable pub pointers_line : Processor → List ℕ
pointers_line s =
    codes "G=" ++ hexadecimal_text 2 s.g ++ codes " T=" ++ hexadecimal_text 2 s.t ++ codes " ST="
    ++ hexadecimal_text 4 s.status
    ++ codes " P=" ++ hexadecimal_text 1 s.p ++ codes " Q=" ++ hexadecimal_text 1 s.q
    ++ codes " PT=" ++ pointer_text s.active ++ codes "\n"

-- The line of the address, the carry, the arithmetic mode, the selected register and the keyboard.
unfoldable pub modes_line : Processor → Keys → List ℕ
modes_line s keys =
    codes "PC=" ++ hexadecimal_text 4 s.pc ++ codes " CY=" ++ bit_text s.carry ++ codes " MODE="
    ++ base_text s.base
    ++ codes " RAM=" ++ hexadecimal_text 3 s.selected ++ codes " KY=" ++ hexadecimal_text 2 keys.ky
    ++ codes " KF=" ++ bit_text keys.flag ++ codes "\n"

-- The line `RTN=`, with the four addresses of the return stack in hexadecimal, the newest first.
unfoldable pub returns_line : Processor → List ℕ
returns_line s =
    codes "RTN=" ++ hexadecimal_text 4 (slice_index s.returns 0) ++ codes " "
    ++ hexadecimal_text 4 (slice_index s.returns 1)
    ++ codes " " ++ hexadecimal_text 4 (slice_index s.returns 2) ++ codes " "
    ++ hexadecimal_text 4 (slice_index s.returns 3) ++ codes "\n"

-- The five lines of the processor.
unfoldable pub processor_text : Processor → Keys → List ℕ
processor_text s keys =
    registers_line s ++ memories_line s ++ pointers_line s ++ modes_line s keys ++ returns_line s

-- A register with its address.
unfoldable pub address_line : ℕ → List ℕ → List ℕ
address_line address register =
    hexadecimal_text 3 address ++ codes "=" ++ text register ++ codes "\n"

-- The line of the register at an address.
abbrev pub register_line : RegisterMap → ℕ → List ℕ
register_line ram address = address_line address (register_at ram address)

-- A stack register or L, with its name.
unfoldable pub level_line : List ℕ → List ℕ → List ℕ
level_line name register = name ++ codes "=" ++ text register ++ codes "\n"

-- The stack from T to X, and L.
unfoldable pub levels_text : List ℕ → List ℕ → List ℕ → List ℕ → List ℕ → List ℕ
levels_text t z y x l =
    level_line (codes "T") t ++ level_line (codes "Z") z ++ level_line (codes "Y") y
    ++ level_line (codes "X") x ++ level_line (codes "L") l

-- The stack and L are the status registers 0 to 4.
abbrev pub stack_text : RegisterMap → List ℕ
stack_text ram =
    levels_text (register_at ram 0) (register_at ram 1) (register_at ram 2) (register_at ram 3)
    (register_at ram 4)

-- The numbers of the flags that are set among the first so many, separated by spaces (32).
abbrev pub flags_below : ℕ → RegisterMap → List ℕ
flags_below count ram =
    join_with_byte 32 (map two_digits (filter (flag_of ram) (range_with_len 0 count)))

-- The line of the flags that are set; there are 56 flags.
unfoldable pub flags_line : RegisterMap → List ℕ
flags_line ram = flags_below 56 ram ++ codes "\n"
