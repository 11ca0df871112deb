-- What was read of an input that is read completely.
use Rattle.std.specs.Prelude.{◌≡◌, ◌⊎◌, ◌<◌, ◌≤◌, ℕ, true, List, length, IfSome}
use Rattle.h41_ends.specs.declared.source.Source as sources
use Rattle.h41_ends.specs.Ends.{GivesTooMany, most_bytes}

-- These bytes are all of an input that is not too long.
pub record IsAllOfInput (bytes input : List ℕ) : Type 0 where
  pub all : bytes ≡ input
  pub bound : length input ≤ most_bytes

-- A read failed, or the input is too long.
abbrev pub IsUnread : {R : Type 0} → sources.Ghosts R → R → R → Type 0
IsUnread source before after =
    (source.failed after ≡ true)
    ⊎ (GivesTooMany (source.given before) (source.given after)
    × IfSome (source.remaining before) (λ input. most_bytes < length input))
