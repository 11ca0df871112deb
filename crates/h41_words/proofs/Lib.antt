pub mod Columns
pub mod Displacements
pub mod Lengths
pub mod Members
pub mod RoundTrip
pub mod SecondWords
