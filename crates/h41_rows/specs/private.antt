-- Definitions for the contracts of this crate's private functions. No public contract and no law
-- uses them.
pub mod Answers
pub mod Comparisons
pub mod Counting
pub mod Readings
pub mod Wholes
