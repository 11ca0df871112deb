-- What the functions of this crate promise to each other. No public contract and no law needs these
-- files.
pub mod AddedFunctions
pub mod AddressSpace
pub mod Labels
