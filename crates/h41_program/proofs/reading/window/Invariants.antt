use Rattle.std.proofs.Common.{◌≡◌, ◌-◌, map, length}
use Rattle.std.specs.List.{range_with_len}
use Rattle.h41_program.specs.private.ByteReading.{ReadsAt}
use Rattle.h41_program.specs.ProgramBytes.{program_byte}
use Rattle.h41_program.proofs.reading.window.Given as goal

-- The bytes so far.
abbrev pub invariant-loop-position : goal.invariant-loop-position
invariant-loop-position g l = record {
  items : l.window.items ≡ map (program_byte l.ram.registers) (range_with_len l.at (l.position - l.at));
  count : length l.window.items ≡ l.position - l.at;
  reader : ReadsAt l.ram.registers l.position l.reader;
}
