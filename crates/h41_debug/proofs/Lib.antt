pub mod Advancing
mod CacheInTurn
mod Locations
pub mod KeysInTurn
pub mod Runs
pub mod StepsInTurn
pub mod Tracing
