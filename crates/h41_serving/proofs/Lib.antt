pub mod Faults
pub mod Programs
pub mod Reported
pub mod Served
pub mod TaskDecks
pub mod TaskInputs
