pub mod Answers
pub mod Deck
pub mod Listings
pub mod MemoryLaws
pub mod Replies
pub mod Runs
pub mod Views
pub mod private
