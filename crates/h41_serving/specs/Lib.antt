pub mod Causes
pub mod Program
pub mod Statuses
pub mod Tasks
pub mod private
