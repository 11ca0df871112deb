pub mod Ends
pub mod HeardLines
pub mod InputLines
pub mod ReadEvents
pub mod private
