pub mod Stacks
pub mod LineRuns
pub mod ProgramLines
pub mod LineRounds
pub mod ProgramStates
pub mod Subroutines
pub mod Loads
