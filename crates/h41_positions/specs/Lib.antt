pub mod FocalState
pub mod LabelledMachine
pub mod PageLines
pub mod PositionLaws
pub mod Positions
pub mod private
