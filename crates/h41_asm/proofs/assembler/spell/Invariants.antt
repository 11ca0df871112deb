use Rattle.std.proofs.Common.{◌≡◌, ◌≤◌, ℕ, List, ◌++◌, drop}
use Rattle.h41_asm.specs.private.KeptLines.{AreReady, SaidSpell, first_fault_by, kept_said, said_faults}
use Rattle.h41_asm.specs.private.LabelTable.{labels_in}
use Rattle.h41_asm.proofs.assembler.spell.Given as goal

abbrev pub invariant-loop-i : goal.invariant-loop-i
invariant-loop-i l = record {
  -- The remaining lines are ready from here on.
  ready : AreReady l.address (kept_said (drop l.i l.lines) (drop l.i l.names));
  within : l.address ≤ 65536;
  -- The errors are those of the lines that are left.
  faults : said_faults (labels_in l.labels) l.address (kept_said (drop l.i l.lines) (drop l.i l.names))
      ≡ first_fault_by l.labels l.origin l.lines l.names;
  -- Words that these lines spell follow the words so far; together they are the words of all lines.
  spelled : (others : List ℕ) → SaidSpell (labels_in l.labels) l.address (kept_said (drop l.i l.lines) (drop l.i l.names)) others
      → SaidSpell (labels_in l.labels) l.origin (kept_said l.lines l.names) (l.words.items ++ others);
}
