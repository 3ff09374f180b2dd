-- The laws of the judges of sets.
pub mod SetLaws
