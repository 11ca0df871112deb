pub mod Determined
pub mod Digits
pub mod Parts
pub mod Rows
pub mod StatusNumbers
pub mod StatusBits
