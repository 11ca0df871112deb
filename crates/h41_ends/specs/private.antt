pub mod LineEndBits
pub mod ReadingOn
