use Rattle.std.proofs.Common.{◌≡◌, ◌-◌, ◌<◌, ◌≤◌, ◌^◌, ℕ}
use Rattle.h41_codes.specs.Heads.{IsIn}
use Rattle.h41_program.specs.private.ByteReading.{ReadsAt}
use Rattle.h41_program.specs.ProgramBytes.{program_byte}
use Rattle.h41_plain_numbers.specs.private.PlainReading.{bytes_from, no_digits, with_codes}
use Rattle.h41_plain_numbers.proofs.plain.plain_digits.Given as goal

-- The bytes so far.
abbrev pub invariant-loop-position : goal.invariant-loop-position
invariant-loop-position g l = record {
  reads : l.digits ≡ with_codes no_digits (bytes_from l.ram.registers l.at (l.position - l.at));
  each : (k : ℕ) → l.at ≤ k → k < l.position → IsIn 0x10 0x1B (program_byte l.ram.registers k);
  count : l.digits.count ≤ 10;
  size : l.digits.count ≤ l.position - l.at;
  below : l.digits.number < 10 ^ l.digits.count;
  places : l.digits.places ≤ l.digits.count;
  reader : ReadsAt l.ram.registers l.position l.reader;
}
