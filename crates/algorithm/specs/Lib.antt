-- Document 01's algorithm, in the order to read.
pub mod Table
pub mod Bytes
pub mod Actions
pub mod Run
pub mod Cases
