pub mod PageViews
pub mod ProgramListing
pub mod Views
