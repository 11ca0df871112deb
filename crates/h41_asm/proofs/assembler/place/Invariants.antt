use Rattle.std.proofs.Common.{◌≡◌, ◌+◌, ◌-◌, ◌≤◌, ◌++◌, drop, length}
use Rattle.h41_asm.specs.private.KeptLines.{kept_said, said_from}
use Rattle.h41_asm.specs.private.LabelTable.{labels_in}
use Rattle.h41_asm.specs.SourceLines.{lines, source_lines}
use Rattle.h41_asm.proofs.Placed.{IsPlaced}
use Rattle.h41_asm.proofs.assembler.place.Given as goal

abbrev pub invariant-loop-start : goal.invariant-loop-start
invariant-loop-start l = record {
  within : l.address ≤ 65536;
  -- The number of lines so far, and how many are left.
  count : l.number + length (lines (drop l.start l.text)) ≤ length l.text + 1;
  -- The lines before are placed, without an error.
  placed : IsPlaced (labels_in l.labels) (source_lines l.text) l.origin l.number l.address (source_lines (drop l.start l.text));
  -- What was read of them is stored.
  length : length l.names.items ≡ length l.lines.items;
  kept : kept_said l.lines.items l.names.items ++ said_from l.number (source_lines (drop l.start l.text))
      ≡ said_from 1 (source_lines l.text);
}

abbrev pub decreases-loop-start : goal.decreases-loop-start
decreases-loop-start l = length l.text - l.start
