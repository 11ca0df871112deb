use Rattle.std.proofs.Common.{◌+◌, ◌≤◌, List, length}
use Rattle.h41_codes.specs.declared.line.Line.{Line}
use Rattle.h41_commands.specs.private.ProgramTexts.{IsPacked, texts_left}
use Rattle.h41_commands.specs.ProgramBlocks.{texts_of}
use Rattle.h41_commands.proofs.ProgramTextLines.{Tells}
use Rattle.h41_commands.proofs.blocks.program_text.program_bytes.Given as goal

abbrev pub invariant-loop-line : goal.invariant-loop-line
invariant-loop-line l = record {
  -- The number of the line, and how many lines remain.
  count : l.number + length (texts_left l.line-iterator) ≤ length l.text + 2;
  -- The lines so far are packed, and the remaining ones continue them.
  told : (front : List Line) × IsPacked front l.packed × Tells (texts_of l.text) front l.number (texts_left l.line-iterator);
}
