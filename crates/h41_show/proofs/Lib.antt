pub mod DecimalTexts
pub mod Fixed
pub mod Held
pub mod Nearest
pub mod Powers
pub mod Roundings
pub mod Scientific
