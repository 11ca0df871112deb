pub mod DigitRule
pub mod DigitRuleLaws
pub mod private
