use Rattle.std.proofs.Common.{◌≡◌}
use Rattle.h41_ram.specs.RamState.{KeepsMark}
use Rattle.h41_rows.proofs.ClearedData.{partly_cleared}
use Rattle.h41_rows.specs.RowMarks.{LeavesMark}
use Rattle.h41_rows.proofs.clearing.clear_data.Given as goal

-- The registers from the first up to this index are zero.
abbrev pub invariant-loop-place : goal.invariant-loop-place
invariant-loop-place g l = record {
  memory : l.ram.registers ≡ partly_cleared l.fn.ram.registers l.first l.place;
  mark : KeepsMark l.fn.ram l.ram;
  left : LeavesMark l.fn.ram l.ram;
}
