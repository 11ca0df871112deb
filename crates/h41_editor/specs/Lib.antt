pub mod Changes
pub mod EditorLaws
pub mod Moves
pub mod NumberedLines
pub mod ProgramText
pub mod private
