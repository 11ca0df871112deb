-- Memory with another number of data registers: the curtain moves, and the programs and the
-- statistics registers move with it.
use Rattle.std.specs.Prelude.{ℕ, ◌+◌, ◌-◌, ◌%◌, List, map, length, slice_set, nat_lt, if◌then◌else◌}
use Rattle.std.specs.Prelude.{Result, Ok, Err}
use Rattle.std.specs.Option.{unwrap_or}
use Rattle.h41_ram.specs.NamedRegisters.{data_of}
use Rattle.h41_ram.specs.RegisterMap.{RegisterMap, main_start, top_of, c_address, zeros}
use Rattle.h41_ram.specs.RegisterMap.{register_at, c_of, curtain_of, end_of, three_digits}
use Rattle.h41_ram.specs.RegisterMap.{with_three_places}
use Rattle.h41_program.specs.declared.refusal.ProgramRefusal.{ProgramRefusal}
use Rattle.h41_program.specs.declared.refusal.ProgramRefusal.TheVariants.{NoRoom, SizeTooLarge}
use Rattle.h41_program.specs.Rewriting.{addresses, free_register}

-- The address of the first statistics register.
abbrev pub statistics_of : RegisterMap → ℕ
statistics_of memory = three_digits (c_of memory) 11

-- The curtain for a number of data registers.
abbrev pub moved_curtain : RegisterMap → ℕ → ℕ
moved_curtain memory size = top_of memory - size

-- The end of program memory below this curtain.
abbrev pub moved_end : RegisterMap → ℕ → ℕ
moved_end memory size = moved_curtain memory size + end_of memory - curtain_of memory

-- The address of the statistics registers after the move, modulo 4,096.
abbrev pub moved_statistics : RegisterMap → ℕ → ℕ
moved_statistics memory size =
    (statistics_of memory + moved_curtain memory size + 4096 - curtain_of memory) % 4096

-- The register at an address: below the new end, in the moved programs, or in the data registers.
-- New data registers are zero.
abbrev pub resized_register : RegisterMap → ℕ → ℕ → List ℕ
resized_register memory size address =
    if nat_lt address (moved_end memory size) then free_register memory address
    else if nat_lt address (moved_curtain memory size)
    then register_at memory (address + end_of memory - moved_end memory size)
    else unwrap_or (data_of memory (address - moved_curtain memory size)) zeros

-- Register c with the three addresses.
abbrev pub resized_c : RegisterMap → ℕ → List ℕ
resized_c memory size =
    with_three_places (with_three_places
    (with_three_places (c_of memory) 0 (moved_end memory size)) 3 (moved_curtain memory size))
    11
    (moved_statistics memory size)

-- Memory with another number of data registers.
abbrev pub with_size : RegisterMap → ℕ → RegisterMap
with_size memory size = record {
  status = slice_set memory.status c_address (resized_c memory size);
  main = map (resized_register memory size) (addresses memory);
}

-- The outcome of a change of the number. There can be one data register fewer than main memory has
-- registers, otherwise it is SizeTooLarge (17). The programs must fit into main memory, otherwise
-- it is NoRoom (16).
abbrev pub size_outcome : RegisterMap → ℕ → Result (RegisterMap × Unit {0}) ProgramRefusal
size_outcome memory size =
    if nat_lt size (length memory.main) then
    (if nat_lt (moved_curtain memory size + end_of memory) (main_start + curtain_of memory)
    then Err NoRoom
    else Ok (with_size memory size, tt))
    else Err SizeTooLarge
