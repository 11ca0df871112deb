-- values
pub mod NumberTexts
pub mod Computed
-- programs
pub mod Listed
pub mod Placed
pub mod ProgramsChanged
-- lines
pub mod Leads
pub mod Carried
-- calculator
pub mod Chosen
pub mod Named
pub mod Moved
pub mod Inserted
pub mod Stepping
pub mod Loading
pub mod Numbered
pub mod Keyed
-- states
pub mod Bytes
pub mod Typing
pub mod WholeMemories
pub mod WholePrograms
pub mod WholeLines
pub mod Edited
pub mod WholeStates
pub mod Pressed
-- runs
pub mod Left
pub mod Told
pub mod RunSteps
