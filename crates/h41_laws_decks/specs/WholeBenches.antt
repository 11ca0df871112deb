-- The states that decks lead to, and that each deck has exactly one text.
use Rattle.std.specs.Prelude.{◌≡◌, ℕ, ◌≤◌, List, ◌++◌, length}
use Rattle.h41_commands.specs.Items.{Spelled}
use Rattle.h41_debug.specs.Bench.{BenchState}
use Rattle.h41_deck.specs.Answers.{Answer}
use Rattle.h41_deck.specs.Deck.{Deck, DeckEnds, EndedText, FirstText}
use Rattle.h41_deck.specs.Replies.{ItemReply}
use Rattle.h41_ends.specs.Ends.{most_bytes}
use Rattle.h41_laws_decks.specs.DeckTexts.{ItemRestsOn}
use Rattle.h41_laws_words.specs.HasOne.{HasOne}
use Rattle.h41_laws_calculator.specs.WholeCalculators.{IsWholeCalculator}
use Rattle.h41_laws_calculator.specs.WholeMemory.{most_main}

-- The calculator of the bench is well-formed.
abbrev pub IsWholeBench : BenchState → Type 0
IsWholeBench s = IsWholeCalculator s.calculator

-- Each command leaves it well-formed, whatever it answers.
abbrev pub ReplyLeavesWhole : Type 0
ReplyLeavesWhole =
    (item : Spelled) (s t : BenchState) (answer : Answer) → IsWholeBench s
    → ItemReply item s t answer → IsWholeBench t

-- The results that each command depends on exist in such a state.
abbrev pub WholeBenchRests : Type 0
WholeBenchRests = (item : Spelled) (s : BenchState) → IsWholeBench s → ItemRestsOn item s

-- Each deck within the limit has exactly one text, and ends in one way, for each size of memory
-- that a calculator has.
abbrev pub EachDeckHasOneText : Type 0
EachDeckHasOneText =
    (registers : ℕ) (deck : List ℕ) → registers ≤ most_main → length deck ≤ most_bytes
    → HasOne (Deck registers deck) × HasOne (DeckEnds registers deck)

-- Any bytes, even of a deck that is too long, have exactly one text of the commands that end in
-- them.
abbrev pub EachFrontHasOneText : Type 0
EachFrontHasOneText =
    (registers : ℕ) (bytes : List ℕ) → registers ≤ most_main → HasOne (EndedText registers bytes)

-- The replies to the first commands of a deck within the limit are a prefix of the text that it
-- has.
abbrev pub FirstTextHasRest : Type 0
FirstTextHasRest =
    (registers : ℕ) (deck first : List ℕ) → registers ≤ most_main → length deck ≤ most_bytes
    → FirstText registers deck first
    → (text : List ℕ) × Deck registers deck text × (rest : List ℕ) × (text ≡ first ++ rest)
