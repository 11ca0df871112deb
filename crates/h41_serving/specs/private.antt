-- What the functions of this crate promise one another. No public contract and no law needs this
-- file.
pub mod CarriedOut
