pub mod Begun
pub mod OneNext
pub mod PageAnswers
pub mod PageStarts
pub mod PositionsFound
