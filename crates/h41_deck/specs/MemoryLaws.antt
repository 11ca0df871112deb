-- When a deck can end because allocation failed.
use Rattle.std.specs.Prelude.{◌≡◌, ℕ, Bool, false, List, [], ◌∷◌}
use Rattle.std.specs.List.{list_any}
use Rattle.h41_commands.specs.Items.{commands, opens_first}
use Rattle.h41_lines.specs.Lines.{lines}
use Rattle.h41_deck.specs.Deck.{MemoryText}
use Rattle.h41_deck.specs.Replies.{item_takes_memory}

-- Whether a line opens a block.
abbrev pub opens : List ℕ → Bool
opens line = opens_first (line ∷ [])

-- If no command of a deck allocates memory and none of its lines opens a block, allocation fails
-- before any byte of it is read and any reply is written, or not at all.
abbrev pub MemoryIsNeeded : Type 0
MemoryIsNeeded =
    (registers : ℕ) (deck text : List ℕ) → MemoryText registers deck text
    → list_any item_takes_memory (commands (lines deck)) ≡ false
    → list_any opens (lines deck) ≡ false → (deck ≡ []) × (text ≡ [])
