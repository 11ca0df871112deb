-- What is true of every source: at an address it either has words or has a first error, and never
-- both; and it has no other words.
use Rattle.std.specs.Prelude.{◌≡◌, ℕ, ◌<◌, ◌⊎◌, List, IsSome}
use Rattle.h41_asm.specs.Assembly.{Assembles, address_count}
use Rattle.h41_asm.specs.Faults.{assembly_fault}

-- A source at an origin has some words.
abbrev pub HasWords : List ℕ → ℕ → Type 0
HasWords source origin = (words : List ℕ) × Assembles source origin words

-- A source at an origin has a first error.
abbrev pub HasFault : List ℕ → ℕ → Type 0
HasFault source origin = IsSome (assembly_fault source origin)

-- At each address, a source has words, or it has a first error.
abbrev pub HasWordsOrFault : Type 0
HasWordsOrFault =
    (source : List ℕ) (origin : ℕ) → origin < address_count
    → HasWords source origin ⊎ HasFault source origin

-- A source never has both words and a first error.
abbrev pub NeverBoth : Type 0
NeverBoth = (source : List ℕ) (origin : ℕ) → HasWords source origin → HasFault source origin → ⊥

-- Two lists of words of the same source at the same origin are equal.
abbrev pub WordsAreDetermined : Type 0
WordsAreDetermined =
    (source : List ℕ) (origin : ℕ) (one other : List ℕ) → Assembles source origin one
    → Assembles source origin other → one ≡ other
