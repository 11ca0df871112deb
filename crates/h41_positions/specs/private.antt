-- Definitions for the contracts of this crate's private functions. No public contract and no law
-- uses them.
pub mod PagePlaces
