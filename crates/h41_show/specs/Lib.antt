pub use Rattle.h41_lines.specs.Characters
pub mod DisplayFormat
pub mod Digits
pub mod Rounding
pub mod NumberText
pub mod RegisterText
pub mod Laws
