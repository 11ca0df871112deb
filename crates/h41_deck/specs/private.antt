-- What the functions of this crate promise one another, and `apply` its callers. No other public
-- contract and no law needs these files.
pub mod AnsweredItems
pub mod AnsweredLines
pub mod Blocks
pub mod Writing
