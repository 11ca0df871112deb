pub mod AbsoluteDifference
pub mod GreatestCommonDivisor
pub mod SumOfRegisters
pub mod Bisection
pub mod BisectionLoop
pub mod LoadedDivisor
