pub mod FirstLine
pub mod FirstWord
pub mod HexadecimalDigits
pub mod LineCount
pub mod Numerals
pub mod Positions
