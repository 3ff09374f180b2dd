pub mod Layout
pub mod Slice
