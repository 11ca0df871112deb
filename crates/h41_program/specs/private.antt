-- Definitions for the contracts of this crate's private functions and of `ByteReader`. No other
-- public contract and no law uses them.
pub mod ByteReading
pub mod EditSteps
pub mod LoadSteps
pub mod Packers
pub mod ProgramPlaces
pub mod Reading
