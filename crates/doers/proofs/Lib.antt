-- The laws of the doers.
pub mod VoteLaws
pub mod StretchLaws
