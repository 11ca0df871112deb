pub mod MemoryNumbers
pub mod private
