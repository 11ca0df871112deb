pub mod KeptAnswers
pub mod KeptLaws
pub mod private
