pub mod FlagTexts
pub mod ImageLines
pub mod ProgramWalks
pub mod Ranges
