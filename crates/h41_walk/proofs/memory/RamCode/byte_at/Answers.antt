use Rattle.std.proofs.Common.{arith, rules}
use Rattle.std.proofs.lemmas.List.FromFn.{length-map-range_with_len}
use Rattle.h41_program.specs.ProgramBytes.{byte_count, program_byte}
use Rattle.h41_program.proofs.Memory.{byte_there}
use Rattle.h41_walk.proofs.memory.RamCode.byte_at.Goals as goal

pub byte_at-requires : goal.byte_at-requires
byte_at-requires g c =
    let memory = c.args.self.now.registers in
    let inside = c.requires.inside in
    (search rules, omega (arith, inside, length-map-range_with_len (program_byte memory) 0 (byte_count memory)))

pub returns : goal.returns
returns g c = search (rules, byte_there, length-map-range_with_len)
