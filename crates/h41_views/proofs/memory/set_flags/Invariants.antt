use Rattle.std.proofs.Common.{◌≡◌, ◌≤◌, ◌*◌, length}
use Rattle.h41_views.specs.Views.{flags_below}
use Rattle.h41_views.proofs.memory.set_flags.Given as goal

-- The flags so far.
abbrev pub invariant-loop-flag : goal.invariant-loop-flag
invariant-loop-flag g l = record {
  text : l.flags.bytes ≡ flags_below l.flag l.ram.registers;
  short : length l.flags.bytes ≤ 3 * l.flag;
}
