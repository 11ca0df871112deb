pub mod Said
pub mod Replied
pub mod Decked
pub mod Meant
pub mod Reached
