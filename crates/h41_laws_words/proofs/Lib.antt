-- numbers
pub mod Carrying
pub mod Powers
pub mod Rounding
pub mod Answering
pub mod Writing
-- words
pub mod Spans
pub mod Stepped
pub mod Registers
pub mod Whole
pub mod Places
-- listings
pub mod ListingLines
pub mod ListingNumbers
pub mod ListingPieces
pub mod ListingRows
pub mod ListingSource
pub mod ListingTable
pub mod ListingTexts
pub mod ListingWords
-- entries
pub mod SourcePlaces
pub mod NameTexts
pub mod Directives
