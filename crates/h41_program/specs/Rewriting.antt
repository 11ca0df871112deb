-- Memory with other programs: the registers below the curtain contain the new bytes, and register c
-- the new end. Registers that no longer belong to programs become zero (this project's choice); all
-- others are unchanged.
use Rattle.std.specs.Prelude.{◌≡◌, ℕ, ◌+◌, ◌-◌, ◌*◌, ◌/◌, List, map, length, slice_set, nat_lt}
use Rattle.std.specs.Prelude.{if◌then◌else◌, Result, Ok, Err}
use Rattle.std.specs.List.{range_with_len}
use Rattle.h41_codes.specs.declared.line.Line.{Line}
use Rattle.h41_ram.specs.RegisterMap.{RegisterMap, main_start, c_address, zeros, register_at, c_of}
use Rattle.h41_ram.specs.RegisterMap.{curtain_of, end_of, digits_from, seven_from}
use Rattle.h41_ram.specs.RegisterMap.{with_three_places}
use Rattle.h41_program.specs.declared.refusal.ProgramRefusal.{ProgramRefusal}
use Rattle.h41_program.specs.declared.refusal.ProgramRefusal.TheVariants.{NoRoom}
use Rattle.h41_program.specs.Packing.{packing}

-- The addresses of main memory.
abbrev pub addresses : RegisterMap → List ℕ
addresses memory = range_with_len main_start (length memory.main)

-- A register below the new end: it is unchanged if it was below the old end, otherwise it becomes
-- zero.
abbrev pub free_register : RegisterMap → ℕ → List ℕ
free_register memory address =
    if nat_lt address (end_of memory) then register_at memory address else zeros

-- The end of program memory with these bytes.
abbrev pub end_after : RegisterMap → List ℕ → ℕ
end_after memory bytes = curtain_of memory - length bytes / 7

-- The register with seven of these bytes, this many registers below the first one.
abbrev pub program_register : List ℕ → ℕ → List ℕ
program_register bytes below = digits_from bytes (seven_from (7 * below))

-- The register at an address: below the new end, in programs, or in the data registers.
abbrev pub rewritten_register : RegisterMap → List ℕ → ℕ → List ℕ
rewritten_register memory bytes address =
    if nat_lt address (end_after memory bytes) then free_register memory address
    else if nat_lt address (curtain_of memory)
    then program_register bytes (curtain_of memory - 1 - address)
    else register_at memory address

-- Memory with these bytes as its programs.
abbrev pub with_program_bytes : RegisterMap → List ℕ → RegisterMap
with_program_bytes memory bytes = record {
  status =
      slice_set memory.status c_address
      (with_three_places (c_of memory) 0 (end_after memory bytes));
  main = map (rewritten_register memory bytes) (addresses memory);
}

-- Memory with these lines as its programs, or NoRoom (16) if they do not fit into main memory.
abbrev pub with_program_lines : RegisterMap → List Line → Result RegisterMap ProgramRefusal
with_program_lines memory lines =
    if nat_lt (curtain_of memory) (main_start + length (packing lines) / 7) then Err NoRoom
    else Ok (with_program_bytes memory (packing lines))

-- A call has the memory and the answer of an outcome. A refusal leaves memory unchanged.
abbrev pub HasOutcome : {A : Type 0} → RegisterMap → RegisterMap → Result A ProgramRefusal
    → Result (RegisterMap × A) ProgramRefusal → Type 0
HasOutcome old new result (Ok outcome) = (result ≡ Ok outcome.1) × (new ≡ outcome.0)
HasOutcome old new result (Err refusal) = (result ≡ Err refusal) × (new ≡ old)
