pub use Rattle.h41_lines.specs.Characters
pub mod LineReading
pub mod LineText
pub mod Names
pub mod TextLaws
pub mod private
