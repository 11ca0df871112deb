pub mod PlainLines
pub mod PlainTexts
