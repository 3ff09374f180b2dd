-- The laws of tests, lists, refusals in order and words.
pub mod Tests
pub mod Choice
pub mod Lists
pub mod BelowLaws
pub mod RefusalLaws
pub mod WordLaws
pub mod PartLaws
