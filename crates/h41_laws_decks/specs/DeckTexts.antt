-- A deck has a text if the results that its commands depend on exist.
use Rattle.std.specs.Prelude.{ℕ, ◌≤◌, List, [], ◌∷◌, length, Ok, Err}
use Rattle.h41_commands.specs.Items.{Spelled, commands}
use Rattle.h41_debug.specs.Bench.{BenchState, start}
use Rattle.h41_deck.specs.Answers.{Answer}
use Rattle.h41_deck.specs.Deck.{AnswersInTurn, Deck, DeckEnds}
use Rattle.h41_deck.specs.Replies.{ItemReply}
use Rattle.h41_ends.specs.Ends.{most_bytes}
use Rattle.h41_lines.specs.Lines.{lines}
use Rattle.h41_laws_decks.specs.DeckAnswers.{RestsOn}
use Rattle.h41_laws_words.specs.HasOne.{HasOne}

-- The results that a command depends on exist. Lines that are refused depend on nothing.
abbrev pub ItemRestsOn : Spelled → BenchState → Type 0
ItemRestsOn (Ok given) s = RestsOn given.0 given.1 s
ItemRestsOn (Err refusal) s = Unit {0}

-- The results that each command in turn depends on exist, in the state that the commands before it
-- leave.
abbrev pub InTurnRestsOn : List Spelled → BenchState → Type 0
InTurnRestsOn [] s = Unit {0}
InTurnRestsOn (item ∷ items) s =
    ItemRestsOn item s
    × ((t : BenchState) (answer : Answer) → ItemReply item s t answer → InTurnRestsOn items t)

-- Commands in turn then have exactly one list of answers.
abbrev pub AnswersHaveOneList : Type 0
AnswersHaveOneList =
    (items : List Spelled) (s : BenchState) → InTurnRestsOn items s
    → HasOne (AnswersInTurn items s)

-- A deck within the limit then has exactly one text, and ends in one way.
abbrev pub DeckHasOneText : Type 0
DeckHasOneText =
    (registers : ℕ) (deck : List ℕ) → length deck ≤ most_bytes
    → InTurnRestsOn (commands (lines deck)) (start registers)
    → HasOne (Deck registers deck) × HasOne (DeckEnds registers deck)
