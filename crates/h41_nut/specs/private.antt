-- What the functions of this crate promise to each other. No public contract and no law needs these
-- files.
pub mod ProcessorSteps
pub mod RowStep
