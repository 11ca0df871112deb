pub mod Columns
pub mod Decimals
pub mod Short
