-- The laws of the reader.
pub mod FillLaws
pub mod ReplyLaws
pub mod SoundRead
pub mod BodyBack
pub mod ReadBack
pub mod ReadTheorems
