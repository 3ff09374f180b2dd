-- The laws of questions.
pub mod LoopLaws
pub mod MarkLaws
