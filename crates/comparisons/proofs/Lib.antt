-- The laws of comparisons.
pub mod LogLaws
