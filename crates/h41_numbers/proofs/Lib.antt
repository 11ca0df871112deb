pub mod NumberParts
pub mod NumberReading
pub mod PlainTexts
pub mod TypedLaws
