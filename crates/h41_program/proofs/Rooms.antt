-- Whether there is room for lines.
use Rattle.std.proofs.Common.{◌≡◌, ◌+◌, ◌/◌, ◌<◌, ◌≤◌, List, length}
use Rattle.std.proofs.Common.{Ok, Err, rules}
use Rattle.std.proofs.lemmas.Bool.Decides.{nat_tests}
use Rattle.h41_codes.specs.declared.line.Line.{Line}
use Rattle.h41_ram.specs.RegisterMap.{RegisterMap, main_start, curtain_of}
use Rattle.h41_program.specs.declared.refusal.ProgramRefusal.TheVariants.{NoRoom}
use Rattle.h41_program.specs.Packing.{packing}
use Rattle.h41_program.specs.Rewriting.{with_program_lines, with_program_bytes}

-- The test of whether there is room.
pub written-none : (memory : RegisterMap) (lines : List Line) → curtain_of memory < main_start + length (packing lines) / 7
    → with_program_lines memory lines ≡ Err NoRoom
written-none memory lines above = search (rules, nat_tests)

pub written-some : (memory : RegisterMap) (lines : List Line) → main_start + length (packing lines) / 7 ≤ curtain_of memory
    → with_program_lines memory lines ≡ Ok (with_program_bytes memory (packing lines))
written-some memory lines inside = search (rules, nat_tests)
