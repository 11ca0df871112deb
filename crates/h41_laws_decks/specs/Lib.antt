pub mod DeckAnswers
pub mod DeckTexts
pub mod WholeBenches
