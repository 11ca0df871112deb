pub mod Packed
pub mod Register
pub mod RegisterLaws
pub mod Spans
