pub mod AlphaTexts
pub mod Bits
pub mod FlagBits
pub mod Marks
pub mod Named
pub mod ThreeDigits
pub mod Writes
