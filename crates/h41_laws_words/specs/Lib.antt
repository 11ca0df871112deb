pub mod HasOne
pub mod DigitAnswers
pub mod DecimalAnswers
pub mod WordAnswers
pub mod WholeStates
pub mod FieldPlaces
pub mod ListingRoundTrip
pub mod DirectivesRead
