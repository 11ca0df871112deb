-- Definitions for the contracts of this crate's private functions. Readers of the public contracts
-- can skip them.
pub mod Placing
