pub mod Packed
pub mod Parts
pub mod Spans
pub mod Values
pub mod Windows
