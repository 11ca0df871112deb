-- Definitions for the contracts of this crate's private functions. No public contract and no law
-- uses them.
pub mod Arrivals
pub mod MachineSteps
pub mod Carrying
pub mod Searching
pub mod StackMoves
pub mod Works
