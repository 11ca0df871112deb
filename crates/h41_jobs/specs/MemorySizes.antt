-- The sizes of main memory that a run can have, and how a command line names them.
use Rattle.std.specs.Prelude.{ℕ, List, Option, Some, None, codes, if◌then◌else◌}
use Rattle.std.specs.Str.{bytes_eq}
use Rattle.h41_jobs.specs.declared.memory.MemorySize.{MemorySize}
use Rattle.h41_jobs.specs.declared.memory.MemorySize.TheVariants as sizes

-- The number of main registers: 64 in an HP-41C without modules, 64 more with each of up to three
-- modules, and 320 in an HP-41CV.
abbrev pub registers_of : MemorySize → ℕ
registers_of sizes.BareC = 64
registers_of sizes.OneModule = 128
registers_of sizes.TwoModules = 192
registers_of sizes.ThreeModules = 256
registers_of sizes.Cv = 320

-- The size that a text names by its number of registers, in exactly these digits.
abbrev pub size_written : List ℕ → Option MemorySize
size_written text =
    if bytes_eq text (codes "64") then Some sizes.BareC
    else (if bytes_eq text (codes "128") then Some sizes.OneModule
    else (if bytes_eq text (codes "192") then Some sizes.TwoModules
    else (if bytes_eq text (codes "256") then Some sizes.ThreeModules
    else (if bytes_eq text (codes "320") then Some sizes.Cv
    else None))))
