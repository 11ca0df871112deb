pub mod FourWords
pub mod Increment
pub mod CountDown
pub mod AddTwo
pub mod OtherBank
pub mod DecimalSum
