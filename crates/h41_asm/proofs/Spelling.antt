-- The words that a statement spells, counted.
use Rattle.std.proofs.Common.{◌≡◌, ℕ, List, length, ap}
use Rattle.h41_asm.specs.Placing.{Labels, StatementSpells}
use Rattle.h41_asm.specs.Statements.{Statement, Words, OutOfReach, LongJumpTo, ShortJumpTo, EntryAt, statement_length}

-- The number of words that a statement spells is its length.
pub length-spelled : (labels : Labels) (address : ℕ) (said : Statement) (own : List ℕ) → StatementSpells labels address said own
    → length own ≡ statement_length said
length-spelled labels address (Words words) own spelled = ap length spelled
length-spelled labels address OutOfReach own spelled = absurd spelled
length-spelled labels address (LongJumpTo condition kind name) own spelled = ap length spelled.2
length-spelled labels address (ShortJumpTo condition name) own spelled = ap length spelled.4
length-spelled labels address (EntryAt bits name) own spelled = ap length spelled.2
