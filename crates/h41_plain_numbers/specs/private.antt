-- What the functions of this crate promise to each other. No public contract and no law needs this
-- file.
pub mod PlainReading
