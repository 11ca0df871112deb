-- What the functions of this crate promise to each other. No public contract and no law needs these
-- files.
pub mod Cut
pub mod PackedDigits
