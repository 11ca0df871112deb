pub mod Answering
pub mod LabelBytes
pub mod MemoryPrograms
pub mod Walks
