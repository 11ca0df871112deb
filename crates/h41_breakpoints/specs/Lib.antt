pub mod Breakpoints
pub mod private
