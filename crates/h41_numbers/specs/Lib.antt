pub mod NumberLaws
pub mod NumberLines
pub mod private
