-- The laws of lines in a buffer, of lines in order, and the whole case.
pub mod LineLaws
pub mod MarkLaws
pub mod OrderLaws
pub mod Worked
