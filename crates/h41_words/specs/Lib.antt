pub mod Counts
pub mod Listing
pub mod Mnemonics
pub mod SecondWord
pub mod Unassigned
pub mod WordTable
pub mod private
