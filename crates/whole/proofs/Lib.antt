-- The laws of whole slices, and of fresh ones.
pub mod CheckLaws
pub mod WholeLaws
pub mod Determined
pub mod WordsLaws
pub mod FreshLaws
