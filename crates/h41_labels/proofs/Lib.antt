pub mod Kept
pub mod Right
pub mod Slots
