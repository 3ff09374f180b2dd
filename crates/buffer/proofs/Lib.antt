-- The laws of texts and numbers in a buffer.
pub mod WroteLaws
pub mod DecimalLaws
pub mod FieldLaws
pub mod WroteUnique
