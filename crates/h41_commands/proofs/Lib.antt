pub mod BlockLines
pub mod BlocksDetermined
pub mod ClosedBlocks
pub mod DeckItems
pub mod EndLines
pub mod Filling
pub mod FirstLines
pub mod HeardItems
pub mod ItemLines
pub mod KeptBytes
pub mod KeyWords
pub mod NameEnds
pub mod ParsedCommands
pub mod ProgramTextLines
mod ReadFaults
pub mod ToldCommands
pub mod WordValues
